-- What a command that was done tells of the texts xs that were entered. Assumes nothing.
use Rattle.std.specs.Prelude.{◌≡◌, ◌⊎◌, List, [], ◌∷◌, ◌++◌, take, vec_items, Result, MatchResult}
use Rattle.std.specs.List.{AllByRecursion}
use Rattle.merkle_theory.specs.Bytes.{Bytes}
use Rattle.merkle_theory.specs.Claims.{Stands}
use Rattle.merkle_theory.specs.Texts.{Collision, path_texts, root_texts}
use Rattle.merkle.specs.declared.digest.Digest.{Digest}
use Rattle.merkle_binding.specs.Bytes.{Sized, all_bytes, by_sha256}
use Rattle.merkle_binding.specs.Entries as entries
use Rattle.script.specs.declared.command.Command.{Command}
use Rattle.script.specs.declared.command.Command.TheVariants as command
use Rattle.play.specs.declared.answer.Answer.{Answer}
use Rattle.play.specs.declared.answer.Refusal.{Refusal}

-- the texts that it enters
abbrev pub entered : Command → List Bytes
entered (command.Enter text) = text.now ∷ []
entered command.Top = []
entered (command.TopOf count) = []
entered (command.Way place count) = []
entered (command.Proof from to) = []
entered (command.Leads place count text path) = []
entered (command.GoesOn from to proof) = []

-- a text from which a way leads to the top was entered at that place, or two texts that were hashed for this have one digest
abbrev pub Tells : Command → List Bytes → Type 0
Tells (command.Enter text) xs = Unit {0}
Tells command.Top xs = Unit {0}
Tells (command.TopOf count) xs = Unit {0}
Tells (command.Way place count) xs = Unit {0}
Tells (command.Proof from to) xs = Unit {0}
Tells (command.Leads place count text path) xs =
    AllByRecursion Sized (vec_items path) →
    Stands (take count xs) place text.now ⊎
    Collision by_sha256 (root_texts by_sha256 (take count xs) ++ path_texts by_sha256 count place text.now (all_bytes (vec_items path)))
Tells (command.GoesOn from to proof) xs = Unit {0}

-- where the row was of the texts xs, it is now of these and of what was entered, and what the answer tells is so
abbrev pub KeepsTexts : Command → List Digest → Result Answer Refusal → List Digest → Type 0
KeepsTexts c ds r after =
    (xs : List Bytes) → ds ≡ entries.row_of xs → MatchResult r (λ _. (after ≡ entries.row_of (xs ++ entered c)) × Tells c xs) (λ _. after ≡ entries.row_of xs)
