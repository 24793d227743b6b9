use Rattle.std.proofs.Common.{refl, ◌∙◌}
use Rattle.config.specs.Layout.{place, settings_of}
use Rattle.config.proofs.Lines.{unless_ok}
use Rattle.config.proofs.Walks.{begun, needed_names, needed_settings, needed_gap, more, bad, said, reads_err}
use Rattle.config.proofs.tables.read_head.Goals as goal

pub returns-in_err-names : goal.returns-in_err-names
unfolding place
returns-in_err-names c =
    let at0 = begun c.args.reader.now c.requires in
    reads_err _ c.next_line.new.self 4 _ _ _ c.from_residual.ensures.1 (bad at0 c.next_line.ensures _ refl _ _ c.in_err-names.ensures)

pub returns-in_err-settings : goal.returns-in_err-settings
unfolding place
returns-in_err-settings c =
    let at0 = begun c.args.reader.now c.requires in
    let at1 = more at0 c.next_line.ensures _ (needed_names _) refl _ _ c.in_ok-names.ensures in
    reads_err _ c.next_line-2.new.self 4 _ _ _ c.from_residual-in_err-settings.ensures.1 (bad at1 c.next_line-2.ensures _ refl _ _ c.in_err-settings.ensures)

pub returns-in_err-gap : goal.returns-in_err-gap
unfolding place
returns-in_err-gap c =
    let at0 = begun c.args.reader.now c.requires in
    let at1 = more at0 c.next_line.ensures _ (needed_names _) refl _ _ c.in_ok-names.ensures in
    let at2 = more at1 c.next_line-2.ensures _ needed_settings refl _ _ c.in_ok-settings.ensures in
    reads_err _ c.next_line-3.new.self 4 _ _ _ c.from_residual-in_err-gap.ensures.1 (bad at2 c.next_line-3.ensures _ refl _ _ c.in_err-gap.ensures)

pub returns-in_err-names-2 : goal.returns-in_err-names-2
unfolding place
returns-in_err-names-2 c =
    let at0 = begun c.args.reader.now c.requires in
    let at1 = more at0 c.next_line.ensures _ (needed_names _) refl _ _ c.in_ok-names.ensures in
    let at2 = more at1 c.next_line-2.ensures _ needed_settings refl _ _ c.in_ok-settings.ensures in
    let at3 = more at2 c.next_line-3.ensures _ needed_gap refl _ _ c.in_ok-gap.ensures in
    reads_err _ c.next_line-4.new.self 4 _ _ _ c.from_residual-in_err-names-2.ensures.1 (bad at3 c.next_line-4.ensures _ refl _ _ c.in_err-names-2.ensures)

pub returns : goal.returns
unfolding place
returns c =
    let at0 = begun c.args.reader.now c.requires in
    let at1 = more at0 c.next_line.ensures _ (needed_names _) refl _ _ c.in_ok-names.ensures in
    let at2 = more at1 c.next_line-2.ensures _ needed_settings refl _ _ c.in_ok-settings.ensures in
    let at3 = more at2 c.next_line-3.ensures _ needed_gap refl _ _ c.in_ok-gap.ensures in
    let at4 = more at3 c.next_line-4.ensures _ (needed_names _) refl _ _ c.in_ok-names-2.ensures in
    (at4, (unless_ok _ _ _ c.in_ok-settings.ensures).1 ∙ said at1 c.next_line-2.ensures settings_of)
