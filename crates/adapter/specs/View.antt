-- An adapter as the rules have it.
use Rattle.std.specs.Prelude.{◌≡◌, ℕ, ◌<◌, ◌≤◌, List, [], ◌∷◌, Ok, Err, Result}
use Rattle.config.specs.Setup.{Setup, setup}
use Rattle.memory.specs.Memory.{entries_in, lines_in}
use Rattle.rules.specs.Slots.{end_of}
use Rattle.rules.specs.State.{Hearing, State, Roomy, parents_of, latest}
use Rattle.rules.specs.Calls.{Called, Due as Placeable, Silent, ShortOf}
use Rattle.rules.specs.Slots.{Frame}
use Rattle.adapter.specs.Answers.{number_of}
use Rattle.adapter.specs.Fields.{state_from}
use Rattle.adapter.specs.Parents.{hearings}
use Rattle.adapter.specs.declared.due.Due.{Due}
use Rattle.adapter.specs.declared.answer.Refusal.{Refusal}
use Rattle.adapter.specs.declared.due.Due.TheVariants.{Skips, Places}
use Rattle.adapter.specs.declared.state.Adapter.{Adapter}

-- its state
abbrev pub view : Adapter → State
view a = state_from a.memory a.heard a.records a.step

-- its configuration
abbrev pub setup_of : Adapter → Setup
setup_of a = setup a.config

-- how many entries its memory has
abbrev pub entries_of : Adapter → ℕ
entries_of a = entries_in a.memory

-- Configuration and memory are those it was made with.
pub record KeptSetup (before after : Adapter) : Type 0 where
  pub config : setup_of after ≡ setup_of before
  pub entries : entries_of after ≡ entries_of before

-- Why a call is refused that names a parent, by its number: too little memory, or an unknown parent.
pub data Unlisted (c : Setup) (entries p number : ℕ) : Type 0 where
  short : (Roomy c entries → ⊥) → number ≡ 5 → Unlisted c entries p number
  unknown : Roomy c entries → parents_of c ≤ p → number ≡ 6 → Unlisted c entries p number

-- what is known of its parents
abbrev pub hearings_in : Adapter → List Hearing
hearings_in a = hearings a.heard (lines_in a.memory)

-- Why the oldest record's frame is neither skipped nor placed, by the refusal's number.
pub data HeldUp (a : Adapter) (number : ℕ) : Type 0 where
  short : (Roomy (setup_of a) (entries_of a) → ⊥) → number ≡ 5 → HeldUp a number
  none : Roomy (setup_of a) (entries_of a) → (view a).records ≡ [] → number ≡ 12 → HeldUp a number
  silent : Roomy (setup_of a) (entries_of a) → (f : Frame) (rest : List Frame) → (view a).records ≡ f ∷ rest → Silent (view a) → number ≡ 13 → HeldUp a number
  unheard : (f : Frame) (rest : List Frame) → Called (setup_of a) (entries_of a) (view a) f rest (hearings_in a)
      → latest (hearings_in a) ≤ f.start → ShortOf (end_of (setup_of a) f) (hearings_in a) → number ≡ 13
      → HeldUp a number

-- The oldest record's frame starts before R.
pub record Skippable (a : Adapter) (since : ℕ) : Type 0 where
  pub frame : Frame
  pub rest : List Frame
  pub called : Called (setup_of a) (entries_of a) (view a) frame rest (hearings_in a)
  pub early : frame.start < latest (hearings_in a)
  pub is : since ≡ latest (hearings_in a)

-- It can be placed.
pub record PlaceableNow (a : Adapter) (f : Frame) : Type 0 where
  pub rest : List Frame
  pub due : Placeable (setup_of a) (entries_of a) (view a) f rest (hearings_in a)

abbrev pub DueSo : Adapter → Result Due Refusal → Type 0
DueSo a (Err refusal) = HeldUp a (number_of refusal)
DueSo a (Ok (Skips number since)) = (early : Skippable a since) × (number ≡ early.frame.number)
DueSo a (Ok (Places f)) = PlaceableNow a f
