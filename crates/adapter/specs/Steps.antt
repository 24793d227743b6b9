-- The state of step as the rules have it, and what each event makes of it.
use Rattle.std.specs.Prelude.{Bool, true, false}
use Rattle.rules.specs.State.{Step as RuleStep, out, following, in_step}
use Rattle.rules.specs.Calls.{step_after}
use Rattle.adapter.specs.declared.step.Step.{Step}
use Rattle.adapter.specs.declared.step.Step.TheVariants.{Out, Following, InStep}
use Rattle.adapter.specs.declared.step.StepEvent.{StepEvent}
use Rattle.adapter.specs.declared.step.StepEvent.TheVariants.{Loss, Anew, Skip, Placed}

abbrev pub step_of : Step → RuleStep
step_of Out = out
step_of (Following doubt) = following doubt
step_of InStep = in_step

-- A loss, a record anew and a skip end the step. A placed frame leads into step where the doubt was 0 after some slot, and leaves an adapter in step there.
abbrev pub step_by : Step → StepEvent → RuleStep
step_by s Loss = out
step_by s Anew = out
step_by s Skip = out
step_by Out (Placed doubt zero) = step_after zero doubt
step_by (Following before) (Placed doubt zero) = step_after zero doubt
step_by InStep (Placed doubt zero) = in_step

-- Only in step do a frame's packets go to the carrier.
abbrev pub adds_in : Step → Bool
adds_in Out = false
adds_in (Following doubt) = false
adds_in InStep = true
