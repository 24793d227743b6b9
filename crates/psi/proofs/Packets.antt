-- What good packets, stuffing and a changed PID are made of.
use Rattle.std.proofs.Common.{◌≡◌, ℕ, ◌-◌, ◌<◌, ◌≤◌, true, false, ◌≢◌, length, replicate, is_some, Some, None, sym, ap, ◌∙◌, ⊎_elim, arith, length-append, length-set, get_or-set_other}
use lib.ListN.{length-replicate}
use Rattle.std.proofs.lemmas.Bool.{and_parts, and_from, eqb-true, eq-eqb, ltb-true, lt-ltb, cond-true, cond-false, cases_Bool, true≢false}
use Rattle.psi.specs.declared.packet.Head.{Head}
use Rattle.psi.specs.Packet.{Bytes, byte, good_packet, head_of, start_of, pid_of, scrambling_of, adaptation_of, counter_of, with_pid, filled, Framed}

-- 188 bytes, the sync byte first, no error
pub record Good (x : Bytes) : Type 0 where
  pub long : length x ≡ 188
  pub sync : byte x 0 ≡ 0x47
  pub clear : byte x 1 < 0x80

pub good_parts : (x : Bytes) → good_packet x ≡ true → Good x
unfolding good_packet
good_parts x g =
    let p = and_parts _ _ g in
    let q = and_parts _ _ p.1 in
    record { long = eqb-true _ _ p.0; sync = eqb-true _ _ q.0; clear = ltb-true _ _ q.1 }

pub good_from : (x : Bytes) → Good x → good_packet x ≡ true
unfolding good_packet
good_from x g = and_from _ _ (eq-eqb _ _ g.long) (and_from _ _ (eq-eqb _ _ g.sync) (lt-ltb _ _ g.clear))

pub bad_from : (x : Bytes) → (Good x → ⊥) → good_packet x ≡ false
bad_from x no-good = ⊎_elim (λ t. absurd (no-good (good_parts x t))) (λ f. f) (cases_Bool (good_packet x))

-- a packet without a head is not good
pub head_bad : (x : Bytes) → is_some (head_of x) ≡ false → good_packet x ≡ false
head_bad x h = ⊎_elim (λ t. absurd (true≢false (sym (ap is_some (cond-true _ _ _ t)) ∙ h))) (λ f. f) (cases_Bool (good_packet x))

-- what a head says of its packet
pub record Headed (x : Bytes) (h : Head) : Type 0 where
  pub good : good_packet x ≡ true
  pub start : h.start ≡ start_of x
  pub pid : h.pid ≡ pid_of x
  pub scrambling : h.scrambling ≡ scrambling_of x
  pub adaptation : h.adaptation ≡ adaptation_of x

pub headed : (x : Bytes) (h : Head) → Some h ≡ head_of x → Headed x h
headed x h e = ⊎_elim yes_good (λ f. absurd (true≢false (ap is_some (e ∙ cond-false _ _ _ f)))) (cases_Bool (good_packet x))
  where
    yes_good : good_packet x ≡ true → Headed x h
    yes_good t =
        let some = e ∙ cond-true _ _ None t in
        let is : h ≡ record { start = start_of x; pid = pid_of x; scrambling = scrambling_of x; adaptation = adaptation_of x; counter = counter_of x } = cc some in
        record { good = t; start = ap (λ g. g.start) is; pid = ap (λ g. g.pid) is; scrambling = ap (λ g. g.scrambling) is; adaptation = ap (λ g. g.adaptation) is }

pub with_pid_framed : (pid : ℕ) (x : Bytes) → Good x → Framed (with_pid pid x)
unfolding with_pid
with_pid_framed pid x g =
    let apart : ◌≢◌ {A = ℕ} 0 2 = omega arith in
    let apart' : ◌≢◌ {A = ℕ} 0 1 = omega arith in
    record { long = simp length-set g.long; sync = simp get_or-set_other g.sync }

-- a packet that is filled up
pub filled_long : (xs : Bytes) → length xs ≤ 188 → length (filled xs) ≡ 188
unfolding filled
filled_long xs h = length-append xs (replicate (188 - length xs) 0xFF) ∙ (let n = length-replicate {A = ℕ} (188 - length xs) 0xFF in omega arith)
