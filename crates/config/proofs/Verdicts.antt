-- The verdict on a text, from what was found in it.
use Rattle.std.proofs.Common.{◌≡◌, ℕ, suc, ◌+◌, ◌-◌, ◌≤◌, List, [], ◌∷◌, length, get_or, take, drop, IsErrAnd, Some, None, Ok, Err, codes, Result, sym, refl, ap, ◌∙◌, subst, arith, length-drop}
use Rattle.std.specs.Option.{option_or}
use Rattle.std.proofs.lemmas.List.{length-map, length-take-le}
use Rattle.config.specs.declared.fault.ConfigFault.{ConfigFault}
use Rattle.config.specs.declared.fault.ConfigFault.TheVariants.{Text, Clash, Memory}
use Rattle.config.specs.declared.fault.TextFault.{TextFault}
use Rattle.config.specs.declared.row.Row.{Row}
use Rattle.config.specs.declared.line.Line.{Line}
use Rattle.config.specs.declared.reader.Reader.{Reader}
use Rattle.config.specs.declared.row.Settings.{Settings}
use Rattle.config.specs.declared.table.Config.{Config}
use Rattle.config.specs.Layout.{names, too_long, fault_at, place, line_wrong, parents, settings_rules, settings_of, rate_of, setup_of, field_at}
use Rattle.config.specs.Reading.{text_lines, unless, Next, wrong}
use Rattle.config.specs.Rows.{SettingsInRange}
use Rattle.config.specs.Setup.{Setup, setup_from}
use Rattle.config.specs.Text.{Bytes, lines}
use Rattle.config.specs.Verdict.{first, first_clash, unless_clash, unless_fault, verdict, Answers}
use Rattle.config.specs.Walk.{Right, First, At, ParentsRead, RowsRead, Stopped}
use Rattle.config.proofs.Firsts.{first_some, first_none}
use Rattle.config.proofs.Lines.{table_right, values_kept}
use Rattle.config.proofs.Numbers.{range_known}
use Rattle.config.proofs.ThirdTable.{place_names}
use Rattle.config.proofs.Walks.{needed_names, more, bad}

verdict_too_long : (text : Bytes) (f : TextFault) → too_long text ≡ Some f → verdict text ≡ Err (Text f)
unfolding verdict
verdict_too_long text f long =
    ap (λ o. unless_fault (lines text) (option_or o (first (fault_at (lines text)) 0 (suc (length (lines text)))))) long

module _ (text : Bytes) (fits : too_long text ≡ None) where
  -- a text that is not too long is judged by its lines
  by_lines : verdict text ≡ unless_fault (lines text) (first (fault_at (lines text)) 0 (suc (length (lines text))))
  unfolding verdict
  by_lines = ap (λ o. unless_fault (lines text) (option_or o (first (fault_at (lines text)) 0 (suc (length (lines text)))))) fits

  module _ (ls : List Bytes) (cut_so : ls ≡ lines text) where
    verdict_fault : (f : TextFault) → First ls f → verdict text ≡ Err (Text f)
    verdict_fault f first-of-ls =
        let found = subst (λ l. First l f) cut_so first-of-ls in
        by_lines ∙ ap (unless_fault (lines text)) (first_some (fault_at (lines text)) (suc (length (lines text))) found.at f (omega (arith, found.inside)) found.before found.here)

    -- a fault that a part of the text met
    pub answers_fault : (f : TextFault) (res : Result Config ConfigFault) → First ls f → IsErrAnd res (λ y. y ≡ Text f) → Answers text res
    answers_fault f (Ok c) first-of-ls by = absurd by
    answers_fault f (Err g) first-of-ls by = subst (λ x. Answers text (Err x)) (sym by) (verdict_fault f first-of-ls)

    refused : (g : ConfigFault) → Stopped ls g → Answers text (Err g)
    refused (Text f) stopped = verdict_fault f stopped
    refused (Clash line) stopped = absurd stopped
    refused Memory stopped = tt

    pub answers_refused : (g : ConfigFault) (res : Result Config ConfigFault) → Stopped ls g → IsErrAnd res (λ y. y ≡ g) → Answers text res
    answers_refused g (Ok c) stopped by = absurd by
    answers_refused g (Err h) stopped by = subst (λ x. Answers text (Err x)) (sym by) (refused g stopped)

    module _ (settings : Settings) (rates : List ℕ) (rows : List Row) (set : settings ≡ settings_of (get_or ls 1 [])) (rated : ParentsRead ls rates) (mapped : RowsRead ls rows) where
      read_setup : setup_from settings rates rows ≡ setup_of ls
      unfolding setup_of
      read_setup = λ i. setup_from (set i) (rated.0 i) (mapped.1 i)

      by_clash : verdict text ≡ unless_clash (lines text) (first_clash (length rates) rows)
      by_clash =
          by_lines
          ∙ ap (unless_fault (lines text)) (first_none (fault_at (lines text)) (suc (length (lines text))) (subst (λ l. Right l (suc (length l))) cut_so mapped.0))
          ∙ ap (λ (s : Setup). unless_clash (lines text) (first_clash (length s.rates) s.rows)) (sym (read_setup ∙ ap setup_of cut_so))

      pub verdict_clash : (i : ℕ) → first_clash (length rates) rows ≡ Some i → verdict text ≡ Err (Clash (7 + parents ls + i))
      verdict_clash i clash = by_clash ∙ ap (unless_clash (lines text)) clash ∙ ap (λ l. Err (Clash (7 + parents l + i))) (sym cut_so)

      pub verdict_ok : first_clash (length rates) rows ≡ None → verdict text ≡ Ok (setup_from settings rates rows)
      verdict_ok none = by_clash ∙ ap (unless_clash (lines text)) none ∙ ap Ok (sym (read_setup ∙ ap setup_of cut_so))

pub answers_too_long : (text : Bytes) (f : TextFault) (res : Result Config ConfigFault) → too_long text ≡ Some f → IsErrAnd res (λ y. y ≡ Text f) → Answers text res
answers_too_long text f (Ok c) long by = absurd by
answers_too_long text f (Err g) long by = subst (λ x. Answers text (Err x)) (sym by) (verdict_too_long text f long)

-- a text that was read up to line 4 has settings in their ranges
pub settings_range : (ls : List Bytes) → 4 ≤ length ls → Right ls 4 → SettingsInRange (settings_of (get_or ls 1 [])).ticks (settings_of (get_or ls 1 [])).backlog (settings_of (get_or ls 1 [])).copies (settings_of (get_or ls 1 [])).tsid
unfolding fault_at place line_wrong settings_of
settings_range [] long right = absurd (omega arith)
settings_range (a ∷ []) long right = absurd (omega arith)
settings_range (a ∷ line ∷ ls) long right =
    let table = table_right 2 1 0 line _ (right 1 (omega arith)) in
    let kept = values_kept 2 settings_rules line table.2 in (
      range_known _ _ (field_at line 0) (kept 0 _ refl),
      range_known _ _ (field_at line 1) (kept 1 _ refl),
      range_known _ _ (field_at line 2) (kept 2 _ refl),
      range_known _ _ (field_at line 3) (kept 3 _ refl),
    )

-- a reader's own lines
pub own : {ls : List Bytes} {r : Reader} {k : ℕ} → At ls r k → At (text_lines r) r k
own {ls} {r} {k} at = subst (λ l. At l r k) (sym at.text) at

-- the third table's names are behind the reader
pub names_read : {ls : List Bytes} {r s : Reader} {l : Line} → At ls r (5 + parents ls) → Next r l s → {V : Type 0} (v x : V) → Ok x ≡ unless (wrong l (names (codes "parent pid out kind service"))) v → At ls s (6 + parents ls)
names_read {ls} {r} {s} at next v x ok =
    subst (At ls s) (omega arith) (more at next _ (needed_names _) (place_names ls) v x ok)

pub names_wrong : {ls : List Bytes} {r s : Reader} {l : Line} → At ls r (5 + parents ls) → Next r l s → {V : Type 0} (v : V) (e : TextFault) → Err e ≡ unless (wrong l (names (codes "parent pid out kind service"))) v → First ls e
names_wrong {ls} at next v e err = bad at next _ (place_names ls) v e err

-- as many rates as the second table has lines
pub length_rates : (ls : List Bytes) (rates : List ℕ) → ParentsRead ls rates → parents ls ≤ length ls - 4 → length rates ≡ parents ls
length_rates ls rates read within =
    ap length read.0 ∙ length-map (take (parents ls) (drop 4 ls)) rate_of ∙ length-take-le (parents ls) (drop 4 ls) (rw (length-drop 4 ls) within)
