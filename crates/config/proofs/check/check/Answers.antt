use Rattle.std.proofs.Common.{◌≡◌, ◌+◌, [], length, get_or, Ok, Err, vec_items, sym, ap, ◌∙◌, subst, arith}
use Rattle.config.specs.declared.fault.ConfigFault.TheVariants.{Clash}
use Rattle.config.specs.Layout.{parents, settings_of}
use Rattle.config.specs.declared.row.Settings.{Settings}
use Rattle.config.specs.Reading.{text_lines}
use Rattle.config.specs.Rows.{SettingsInRange, AllListed}
use Rattle.config.specs.Text.{lines}
use Rattle.config.specs.Verdict.{first_clash}
use Rattle.config.specs.Walk.{At, RowsRead}
use Rattle.config.proofs.Clashes.{all_listed, none_shares}
use Rattle.config.proofs.Verdicts.{answers_too_long, answers_fault, answers_refused, names_read, names_wrong, length_rates, settings_range, verdict_clash, verdict_ok}
use Rattle.config.proofs.check.check.Goals as goal
use Rattle.config.proofs.check.check.Goals.{In_ok-settings, After-find_clash}

-- the reader behind the first table has the lines of the text
cut_so : (c : In_ok-settings) → text_lines c.read_head.new.reader ≡ lines c.args.text.now
cut_so c = c.in_ok-settings.ensures.0.text ∙ ap lines c.in_ok-reader.ensures.ok.1

pub returns-in_err-reader : goal.returns-in_err-reader
returns-in_err-reader c = answers_too_long _ _ _ c.in_err-reader.ensures.err c.from_residual.ensures.1

pub returns-in_err-settings : goal.returns-in_err-settings
returns-in_err-settings c =
    answers_fault _ c.in_ok-reader.ensures.ok.0 _ (ap lines c.in_ok-reader.ensures.ok.1) _ _ c.in_err-settings.ensures c.from_residual-in_err-settings.ensures.1

pub returns-in_err-rates : goal.returns-in_err-rates
returns-in_err-rates c =
    answers_refused _ c.in_ok-reader.ensures.ok.0 _ (cut_so (goal.at.returns-in_err-rates c).In_ok-settings) _ _ c.in_err-rates.ensures c.from_residual-in_err-rates.ensures.1

pub returns-in_err-names : goal.returns-in_err-names
returns-in_err-names c =
    answers_fault _ c.in_ok-reader.ensures.ok.0 _ (cut_so (goal.at.returns-in_err-names c).In_ok-settings) _ _
    (names_wrong c.in_ok-rates.ensures.0 c.next_line.ensures _ _ c.in_err-names.ensures) c.from_residual-in_err-names.ensures.1

pub read_rows-requires : goal.read_rows-requires
read_rows-requires c =
    let at = names_read c.in_ok-rates.ensures.0 c.next_line.ensures _ _ c.in_ok-names.ensures in
    subst (λ ls. At ls c.next_line.new.self (6 + parents ls)) (sym at.text) at

pub returns-in_err-rows : goal.returns-in_err-rows
returns-in_err-rows c =
    let at = names_read c.in_ok-rates.ensures.0 c.next_line.ensures _ _ c.in_ok-names.ensures in
    answers_refused _ c.in_ok-reader.ensures.ok.0 _ (at.text ∙ cut_so (goal.at.returns-in_err-rows c).In_ok-settings) _ _ c.in_err-rows.ensures c.from_residual-in_err-rows.ensures.1

-- what was read, by the lines of the reader behind the first table
settings_are : (c : In_ok-settings) → c.in_ok-settings.settings ≡ settings_of (get_or (text_lines c.read_head.new.reader) 1 [])
settings_are c = c.in_ok-settings.ensures.1 ∙ ap (λ ls. settings_of (get_or ls 1 [])) (sym c.in_ok-settings.ensures.0.text)

rows_are : (c : After-find_clash) → RowsRead (text_lines c.read_head.new.reader) (vec_items c.in_ok-rows.rows)
rows_are c =
    let at = names_read c.in_ok-rates.ensures.0 c.next_line.ensures _ _ c.in_ok-names.ensures in
    subst (λ ls. RowsRead ls (vec_items c.in_ok-rows.rows)) at.text c.in_ok-rows.ensures.1

-- the clash that was looked for
clash_is : (c : After-find_clash) → first_clash (length (vec_items c.in_ok-rates.rates)) (vec_items c.in_ok-rows.rows) ≡ c.find_clash.result
clash_is c =
    (λ i. first_clash ((sym (c.len.ensures ∙ c.in_ok-rates.rates.ok.0)) i) ((sym c.as_slice.ensures.value) i))
    ∙ sym c.find_clash.ensures.value

pub returns-in-Some : goal.returns-in-Some
returns-in-Some c =
    let settled = (goal.at.returns-in-Some c).In_ok-settings in
    let looked = (goal.at.returns-in-Some c).After-find_clash in
    let read = c.in_ok-rates.ensures in
    let many = length_rates _ _ read.1 (omega (arith, read.0.inside)) in
    verdict_clash _ c.in_ok-reader.ensures.ok.0 _ (cut_so settled) _ _ _ (settings_are settled) read.1 (rows_are looked) _ (clash_is looked ∙ c.in-Some.is)
    ∙ ap (λ n. Err (Clash (7 + n + c.in-Some.row))) (sym (c.len-in-Some.ensures ∙ c.in_ok-rates.rates.ok.0 ∙ many))

pub of-requires-clause-settings_in_range : goal.of-requires-clause-settings_in_range
of-requires-clause-settings_in_range c =
    let head = c.in_ok-settings.ensures in
    subst (λ (s : Settings). SettingsInRange s.ticks s.backlog s.copies s.tsid) (sym head.1) (settings_range _ head.0.inside head.0.right)

pub of-requires-clause-all_listed : goal.of-requires-clause-all_listed
of-requires-clause-all_listed c =
    let items = vec_items c.in_ok-rows.rows in
    subst (λ n. AllListed n items) (sym c.in_ok-rates.rates.ok.0) (all_listed _ items (clash_is (goal.at.of-requires-clause-all_listed c).After-find_clash ∙ c.in_default.is))

pub of-requires-clause-none_shares : goal.of-requires-clause-none_shares
of-requires-clause-none_shares c = none_shares _ (vec_items c.in_ok-rows.rows) (clash_is (goal.at.of-requires-clause-none_shares c).After-find_clash ∙ c.in_default.is)

pub returns : goal.returns
returns c =
    let settled = (goal.at.returns c).In_ok-settings in
    let looked = (goal.at.returns c).After-find_clash in
    verdict_ok _ c.in_ok-reader.ensures.ok.0 _ (cut_so settled) _ _ _ (settings_are settled) c.in_ok-rates.ensures.1 (rows_are looked) (clash_is looked ∙ c.in_default.is)
    ∙ ap Ok (sym c.of.ensures)
