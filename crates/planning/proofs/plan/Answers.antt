-- `planning::plan`: what the job's bytes get decides.
use Rattle.output.proofs.Answering.{answers_of}
use Rattle.planning.proofs.Parts.{of_routing}
use Rattle.planning.proofs.plan.Goals as goal

pub returns-in-Err : goal.returns-in-Err
returns-in-Err c = answers_of (of_routing _ c.in-Err.ensures) c.write_refusal.ensures

pub returns-in-Ok : goal.returns-in-Ok
returns-in-Ok c = answers_of (of_routing _ c.in-Ok.ensures) c.write_tree.ensures
