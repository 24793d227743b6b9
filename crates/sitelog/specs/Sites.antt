-- What a site's calls do: one carrier takes part, and the others stay as they are.
use Rattle.std.specs.Prelude.{◌≡◌, ℕ, ◌/◌, min, List, [], ◌∷◌, IfOk, IfErr, Some, None, Option, Result, slice_index_or, slice_set}
use Rattle.adapter.specs.Laws.{ClearAfter, EqualAfter}
use Rattle.adapter.specs.View.{view, setup_of, entries_of, KeptSetup}
use Rattle.carrier.specs.Meaning.{Carried, vacant, refusal, refusal_in}
use Rattle.carrier.specs.declared.PutFault.{PutFault}
use Rattle.config.specs.Text.{Bytes}
use Rattle.config.specs.Setup.{Setup}
use Rattle.rules.specs.Calls.{FrameAnswer, Frames}
use Rattle.rules.specs.State.{power_up}
use Rattle.sitelog.specs.Mounting.{mounted_meaning, place_bytes}
use Rattle.sitelog.specs.declared.mounted.Kind.{Kind}
use Rattle.sitelog.specs.declared.mounted.Mounted.{Mounted}
use Rattle.sitelog.specs.declared.site.Place.{Place}
use Rattle.sitelog.specs.declared.site.Site.{Site}

abbrev pub index_of : Place → ℕ
index_of place = place.index

-- what stands at its places, in order
abbrev pub carriers_of : Site → List (Option Mounted)
carriers_of site = site.carriers

-- the carrier at a place, if there is one
abbrev pub carrier_at : Site → ℕ → Option Mounted
carrier_at site p = slice_index_or (carriers_of site) p None

-- A site at power-up, of this configuration, with as many of these entries as an adapter has a use for.
pub record Powered (c : Setup) (entries : ℕ) (site : Site) : Type 0 where
  pub state : view site.adapter ≡ power_up c
  pub configured : setup_of site.adapter ≡ c
  pub sized : entries_of site.adapter ≡ min entries 17_408
  pub none : (p : ℕ) → carrier_at site p ≡ None

-- Adapter and carriers stay as they are.
pub record Unchanged (before after : Site) : Type 0 where
  pub adapter : after.adapter ≡ before.adapter
  pub carriers : carriers_of after ≡ carriers_of before

-- No carrier stands at a place, and nothing changes.
pub record Missing (before : Site) (p : ℕ) (after : Site) : Type 0 where
  pub none : carrier_at before p ≡ None
  pub same : Unchanged before after

-- An empty carrier of this kind and of so many bytes stands at a place.
pub record Mounts (before : Site) (p : ℕ) (kind : Kind) (bytes : ℕ) (after : Site) (places : ℕ) : Type 0 where
  pub mounted : Mounted
  pub carriers : carriers_of after ≡ slice_set (carriers_of before) p (Some mounted)
  pub means : mounted_meaning mounted ≡ vacant places
  pub enough : places ≡ bytes / place_bytes kind
  pub adapter : after.adapter ≡ before.adapter

-- The carrier at a place becomes another, and the others stay.
pub record AtPlace (before : Site) (p : ℕ) (m m' : Mounted) (after : Site) : Type 0 where
  pub there : carrier_at before p ≡ Some m
  pub carriers : carriers_of after ≡ slice_set (carriers_of before) p (Some m')

-- A frame call with the carrier at a place: by the rules, and by both laws.
pub record FramesAt (before : Site) (p : ℕ) (r : FrameAnswer) (after : Site) : Type 0 where
  pub mounted : Mounted
  pub mounted' : Mounted
  pub place : AtPlace before p mounted mounted' after
  pub rule : Frames (setup_of before.adapter) (entries_of before.adapter) (view before.adapter) (mounted_meaning mounted) r (view after.adapter) (mounted_meaning mounted')
  pub same : KeptSetup before.adapter after.adapter
  pub clear : ClearAfter (setup_of before.adapter) (entries_of before.adapter) (view before.adapter) (mounted_meaning mounted) r (mounted_meaning mounted')
  pub equal : EqualAfter (setup_of before.adapter) (entries_of before.adapter) (view before.adapter) (mounted_meaning mounted) r (mounted_meaning mounted')

-- A put into the carrier at a place.
pub record Puts-at (before : Site) (p : ℕ) (packet : Bytes) (r : Result (Unit {0}) PutFault) (after : Site) : Type 0 where
  pub mounted : Mounted
  pub mounted' : Mounted
  pub place : AtPlace before p mounted mounted' after
  pub answer : refusal_in r ≡ refusal packet (mounted_meaning mounted).free
  pub stays : IfErr r (λ _. mounted' ≡ mounted)
  pub taken : IfOk r (λ _. Carried (packet ∷ []) (mounted_meaning mounted) (mounted_meaning mounted'))
  pub adapter : after.adapter ≡ before.adapter

-- The carrier at a place is as it was when it was made.
pub record EmptiesAt (before : Site) (p : ℕ) (after : Site) : Type 0 where
  pub mounted : Mounted
  pub mounted' : Mounted
  pub place : AtPlace before p mounted mounted' after
  pub means : mounted_meaning mounted' ≡ vacant (mounted_meaning mounted).capacity
  pub adapter : after.adapter ≡ before.adapter
