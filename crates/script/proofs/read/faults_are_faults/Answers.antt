use Rattle.script.proofs.Faults.{faults_are_faults}
use Rattle.script.proofs.read.faults_are_faults.Goals as goal

pub returns : goal.returns
returns c = faults_are_faults
