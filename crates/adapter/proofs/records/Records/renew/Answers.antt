use Rattle.std.proofs.Common.{◌≡◌, true, cond, [], ◌∷◌, ◌++◌, length, is_ok, ap, ◌∙◌, arith}
use Rattle.std.proofs.lemmas.Bool.{lt-ltb}
use Rattle.waiting.specs.Waiting.{waits}
use Rattle.adapter.specs.Queue.{waiting_in}
use Rattle.adapter.proofs.records.Records.renew.Goals as goal

pub returns-clause-waits : goal.returns-clause-waits
unfolding waiting_in
returns-clause-waits c =
    let none : waits c.let_all_go.new.self c.args.self.now.frames ≡ [] = c.let_all_go.ensures _ in
    let places : length c.args.self.now.frames ≡ 8 = omega arith in
    let free : is_ok c.join.result ≡ true = c.join.ensures.test ∙ lt-ltb _ _ (omega (arith, ap length none)) in
    c.join.ensures.after ∙ ap (λ b. cond b (waits c.let_all_go.new.self c.args.self.now.frames ++ c.args.frame ∷ []) (waits c.let_all_go.new.self c.args.self.now.frames)) free
    ∙ ap (λ w. w ++ c.args.frame ∷ []) none
