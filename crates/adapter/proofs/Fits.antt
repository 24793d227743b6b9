-- What holds of every state that a complete log leads to, and is not told by the rules' own invariants: packets that wait can go to a carrier,
-- and records that wait are in range.
use Rattle.std.proofs.Common.{◌≡◌, ℕ, zero, suc, ◌+◌, ◌<◌, ◌≤◌, true, false, cond, ltb, leb, ◌≢◌, List, [], ◌∷◌, ◌++◌, map, length, get_or, set, replicate, Some, None, Option, sym, ap, ◌∙◌, subst, ⊎_elim, arith}
use Rattle.std.proofs.lemmas.List.{get_or-set_same, get_or-set_other, get_or_past, length-set}
use Rattle.std.proofs.lemmas.Bool.{cases_eq, cases_lt}
use Rattle.config.specs.Setup.{Setup}
use Rattle.psi.proofs.Deliveries.{delivered}
use Rattle.psi.specs.Packet.{Bytes, Framed}
use Rattle.rules.specs.Entries.{Entry}
use Rattle.rules.specs.Slots.{Frame}
use Rattle.rules.specs.Calls as calls
use Rattle.rules.specs.Calls.{InRange, records_from, let_go, admitted}
use Rattle.rules.specs.Entries.{into, merge, merged}
use Rattle.rules.specs.Log.{Log, Leads, begins, next, Event, hear, loss, recorded, framed, Took}
use Rattle.carrier.specs.Meaning.{Meaning}
use Rattle.rules.specs.Slots.{turns_from, turns, waiting}
use Rattle.rules.specs.State.{Hearing, State, Step, out, following, in_step, Parent, parent_at, lose, know, line_of, parents_of}
use Rattle.adapter.specs.Placing.{Whole, AllWhole}
use Rattle.adapter.proofs.Turns.{whole_before, whole_from_on, whole_append, whole_joins, whole_stays}

abbrev pub AllInRange : Setup → List Frame → Type 0
AllInRange c [] = Unit {0}
AllInRange c (f ∷ fs) = InRange c f × AllInRange c fs

-- what is known of a parent, if anything
abbrev pub LineWhole : Parent → Type 0
LineWhole None = Unit {0}
LineWhole (Some h) = AllWhole h.line

pub record Fit (c : Setup) (s : State) : Type 0 where
  pub lines : (p : ℕ) → LineWhole (parent_at s p)
  pub backlog : AllWhole s.backlog
  pub records : AllInRange c s.records

none_known : (n p : ℕ) → LineWhole (get_or (replicate n None) p None)
none_known zero p = tt
none_known (suc n) zero = tt
none_known (suc n) (suc p) = none_known n p

set_whole : (ps : List Parent) (p : ℕ) (x : Parent) → LineWhole x → ((q : ℕ) → LineWhole (get_or ps q None)) → (q : ℕ) → LineWhole (get_or (set ps p x) q None)
set_whole ps p x here h q =
    ⊎_elim
    (λ (same : q ≡ p).
    ⊎_elim
    (λ (low : p < length ps). subst LineWhole (sym (ap (λ i. get_or (set ps p x) i None) same ∙ get_or-set_same ps p x None low)) here)
    (λ (high : length ps ≤ p). subst LineWhole (sym (get_or_past (set ps p x) q None (omega (arith, length-set ps p x)))) tt)
    (cases_lt p (length ps)))
    (λ (other : q ≢ p). subst LineWhole (sym (get_or-set_other ps p q x None other)) (h q))
    (cases_eq q p)

whole_line : (P : Parent) → LineWhole P → AllWhole (line_of P)
whole_line None h = tt
whole_line (Some g) h = h

whole_let_go : (m : ℕ) (hs : List Hearing) → ((q : ℕ) → LineWhole (get_or (map Some hs) q None)) → (q : ℕ) → LineWhole (get_or (map (λ h. Some (let_go m h)) hs) q None)
whole_let_go m [] h q = tt
whole_let_go m (x ∷ hs) h zero = whole_from_on m x.line (h 0)
whole_let_go m (x ∷ hs) h (suc q) = whole_let_go m hs (λ i. h (suc i)) q

whole_into : (e : Entry) (l : List Entry) → Whole e.bytes → AllWhole l → AllWhole (into e l)
whole_into e [] h k = (h, tt)
whole_into e (d ∷ ds) h k = elim (leb e.arrival d.arrival) as (λ b. AllWhole (cond b (e ∷ d ∷ ds) (d ∷ into e ds))) [ true ↦ (h, k) | false ↦ (k.0, whole_into e ds h k.1) ]

whole_merge : (l m : List Entry) → AllWhole l → AllWhole m → AllWhole (merge l m)
whole_merge [] m h k = k
whole_merge (e ∷ l) m h k = whole_into e (merge l m) h.0 (whole_merge l m h.1 k)

pub whole_merged : (ls : List (List Entry)) → ((q : ℕ) → AllWhole (get_or ls q [])) → AllWhole (merged ls)
whole_merged [] h = tt
whole_merged (l ∷ ls) h = whole_merge l (merged ls) (h 0) (whole_merged ls (λ q. h (suc q)))

whole_admitted : (c : Setup) (f : Frame) (s : Step) (l : List Entry) → AllWhole l → AllWhole (admitted c f s l)
whole_admitted c f out l h = whole_before _ _ (whole_from_on f.start l h)
whole_admitted c f (following d) l h = whole_before _ l h
whole_admitted c f in_step l h = whole_before _ l h

whole_each : (c : Setup) (f : Frame) (s : Step) (hs : List Hearing) → ((q : ℕ) → LineWhole (get_or (map Some hs) q None)) → AllWhole (merged (map (λ h. admitted c f s h.line) hs))
whole_each c f s [] h = tt
whole_each c f s (x ∷ hs) h = whole_merge (admitted c f s x.line) _ (whole_admitted c f s x.line (h 0)) (whole_each c f s hs (λ q. h (suc q)))

whole_waiting : (c : Setup) (f : Frame) (left k : ℕ) (es b : List Entry) → AllWhole es → AllWhole b → AllWhole (waiting c.backlog (turns_from c f left k es) b)
whole_waiting c f zero k es b h w = w
whole_waiting c f (suc left) k es b h w =
    whole_waiting c f left (k + 1) _ _ (whole_from_on _ es h) (whole_stays _ _ (whole_joins c.backlog b _ w (whole_before _ es h)))

whole_turns : (c : Setup) (f : Frame) (es b : List Entry) → AllWhole es → AllWhole b → AllWhole (waiting c.backlog (turns c f es) b)
unfolding turns
whole_turns c f es b h w = whole_waiting c f f.slots 0 es b h w

range_append : (c : Setup) (fs : List Frame) (f : Frame) → AllInRange c fs → InRange c f → AllInRange c (fs ++ f ∷ [])
range_append c [] f h k = (k, tt)
range_append c (x ∷ fs) f h k = (h.0, range_append c fs f h.1 k)

range_from : (c : Setup) (m : ℕ) (fs : List Frame) → AllInRange c fs → AllInRange c (records_from m fs)
range_from c m [] h = tt
range_from c m (f ∷ fs) h = elim (ltb f.start m) as (λ b. AllInRange c (cond b (records_from m fs) (f ∷ fs))) [ true ↦ range_from c m fs h.1 | false ↦ h ]

module _ (c : Setup) (n : ℕ) (s : State) (h : Fit c s) where
  stays : {s' : State} → s' ≡ s → Fit c s'
  stays e = subst (Fit c) (sym e) h

  lost : (p : ℕ) {s' : State} → s' ≡ lose p s → Fit c s'
  lost p e = subst (Fit c) (sym e) (record { lines = set_whole s.parents p None tt h.lines; backlog = tt; records = h.records })

  knows : (p : ℕ) (g : Hearing) {s' : State} → AllWhole g.line → s' ≡ know p g s → Fit c s'
  knows p g k e = subst (Fit c) (sym e) (record { lines = set_whole s.parents p (Some g) k h.lines; backlog = h.backlog; records = h.records })

  heard : (p : ℕ) (x : Bytes) (t : Option ℕ) (r : calls.HearAnswer) (s' : State) → calls.Hears c n s p x t r s' → Fit c s'
  heard p x t r s' (calls.Hears.short a b e) = stays e
  heard p x t r s' (calls.Hears.unknown a b k e) = stays e
  heard p x t r s' (calls.Hears.bad a b k e) = lost p e
  heard p x t r s' (calls.Hears.untimely a b k e) = lost p e
  heard p x t r s' (calls.Hears.unanchored a b k d e) = stays e
  heard p x t r s' (calls.Hears.unwanted σ a b k e) = knows p _ (whole_line (parent_at s p) (h.lines p)) e
  heard p x t r s' (calls.Hears.unpatched σ a b k d e) = knows p _ (whole_line (parent_at s p) (h.lines p)) e
  heard p x t r s' (calls.Hears.full σ y a b k d e) = stays e
  heard p x t r s' (calls.Hears.holds σ y a b k d e) =
      let f : Framed y.bytes = (delivered c p x y.row y.bytes a.packet.good b.maps).1 in
      knows p _ (whole_append (line_of (parent_at s p)) (y ∷ []) (whole_line (parent_at s p) (h.lines p)) ((f.long, f.sync), tt)) e

  loses : (p : ℕ) (r : calls.LossAnswer) (s' : State) → calls.Loses c n s p r s' → Fit c s'
  loses p r s' (calls.Loses.short a b e) = stays e
  loses p r s' (calls.Loses.unknown a b k e) = stays e
  loses p r s' (calls.Loses.loses a b e) = lost p e

  records : (f : Frame) (r : calls.RecordAnswer) (s' : State) → calls.Records c n s f r s' → Fit c s'
  records f r s' (calls.Records.short a b e) = stays e
  records f r s' (calls.Records.outside a b k e) = stays e
  records f r s' (calls.Records.eight a b k d m e) = stays e
  records f r s' (calls.Records.queues a b k d m e) =
      subst (Fit c) (sym e) (record { lines = h.lines; backlog = h.backlog; records = range_append c s.records f h.records b })
  records f r s' (calls.Records.starts a b k m e) =
      subst (Fit c) (sym e) (record { lines = h.lines; backlog = tt; records = (b, tt) })

  each : (hs : List Hearing) → calls.AllHeard s hs → (q : ℕ) → LineWhole (get_or (map Some hs) q None)
  each hs all q = subst (λ ps. LineWhole (get_or ps q None)) all (h.lines q)

  placed : (f : Frame) (rest : List Frame) (hs : List Hearing) (t : Step) {s' : State} → s.records ≡ f ∷ rest → calls.AllHeard s hs → s' ≡ calls.placed c s f rest hs t → Fit c s'
  placed f rest hs t oldest all e =
      subst (Fit c) (sym e)
      (record {
        lines = whole_let_go (f.start + c.ticks) hs (each hs all);
        backlog = whole_turns c f _ s.backlog (whole_each c f s.step hs (each hs all)) h.backlog;
        records = (subst (AllInRange c) oldest h.records).1;
      })

  frames : (k : Meaning) (r : calls.FrameAnswer) (s' : State) (k' : Meaning) → calls.Frames c n s k r s' k' → Fit c s'
  frames k r s' k' (calls.Frames.short a b e d) = stays e
  frames k r s' k' (calls.Frames.none a b x e d) = stays e
  frames k r s' k' (calls.Frames.silent a f rest b x y e d) = stays e
  frames k r s' k' (calls.Frames.skips f rest hs a b x e d) =
      subst (Fit c) (sym e)
      (record { lines = whole_let_go _ hs (each hs a.anchored); backlog = tt; records = range_from c _ s.records h.records })
  frames k r s' k' (calls.Frames.unheard f rest hs a b x y e d) = stays e
  frames k r s' k' (calls.Frames.crowded f rest hs a b x y e d) = stays e
  frames k r s' k' (calls.Frames.follows f rest hs a b x e d) =
      placed f rest hs _ a.called.oldest a.called.anchored e
  frames k r s' k' (calls.Frames.adds f rest hs a b x y e d) = placed f rest hs in_step a.called.oldest a.called.anchored e

took : (c : Setup) (n : ℕ) (s s' : State) (e : Event) → Fit c s → Took c n s e s' → Fit c s'
took c n s s' (hear p x t r) h k = heard c n s h p x t r s' k
took c n s s' (loss p r) h k = loses c n s h p r s' k
took c n s s' (recorded f r) h k = records c n s h f r s' k
took c n s s' (framed a r b) h k = frames c n s h a r s' b k

pub fit : (c : Setup) (n : ℕ) (log : Log) (s : State) → Leads c n log s → Fit c s
fit c n log s begins = record { lines = none_known (parents_of c); backlog = tt; records = tt }
fit c n log s (next {log = past} {s = s₀} l e k) = took c n s₀ s e (fit c n past s₀ l) k
