-- What is found in the row, or isn't, is what the command asks. Assumes nothing.
use Rattle.std.proofs.Common.{◌≡◌, List, Ok, Err, Result, sym, refl, subst, MatchResult}
use Rattle.merkle.specs.declared.digest.Digest.{Digest}
use Rattle.script.specs.declared.command.Command.{Command}
use Rattle.play.specs.declared.answer.Answer.{Answer}
use Rattle.play.specs.declared.answer.Refusal.{Refusal}
use Rattle.play.specs.declared.answer.Refusal.TheVariants.{NotThere, Elsewhere, NoMemory}
use Rattle.play.specs.Played.{Answers, Done, Finds, Makes, Refuses, Right, There, grown}

abbrev Performs : Command → List Digest → Result Answer Refusal → Type 0
Performs c ds r = MatchResult r (λ a. Done c ds a ds) (λ e. Refuses c ds e × (ds ≡ ds))

performs : (c : Command) (ds : List Digest) (r : Result Answer Refusal) → Right c ds → Makes c → ds ≡ grown c ds → Finds (There c ds) (Answers c ds) r → Performs c ds r
performs c ds (Ok a) right makes row found = record { there = found.0; right = right; answer = found.1; row = row }
performs c ds (Err NotThere) right makes row found = (found, refl)
performs c ds (Err Elsewhere) right makes row found = absurd found
performs c ds (Err NoMemory) right makes row found = ((found, makes), refl)

pub found_performs : (c d : Command) (ds : List Digest) (r : Result Answer Refusal) → c ≡ d → Right d ds → Makes d → ds ≡ grown d ds → Finds (There d ds) (Answers d ds) r → Performs c ds r
found_performs c d ds r e right makes row found = subst (λ (x : Command). Performs x ds r) (sym e) (performs d ds r right makes row found)
