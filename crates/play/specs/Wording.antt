-- The answers and the refusals in words. Assumes nothing.
use Rattle.std.specs.Prelude.{ℕ, List, [], ◌∷◌, ◌++◌, vec_items, codes, decimal}
use Rattle.std.specs.List.{flat_map}
use Rattle.merkle.specs.declared.digest.Digest.{Digest}
use Rattle.script.specs.Texts.{hex_of}
use Rattle.play.specs.declared.answer.Answer.{Answer}
use Rattle.play.specs.declared.answer.Answer.TheVariants.{Entered, Top, Way, Proof, Leads, GoesOn}
use Rattle.play.specs.declared.answer.Refusal.{Refusal}
use Rattle.play.specs.declared.answer.Refusal.TheVariants.{NotThere, Elsewhere, NoMemory}

abbrev pub Text : Type 0
Text = List ℕ

-- digests, each behind a blank
abbrev pub spaced : List Digest → Text
spaced ds = flat_map (λ d. 32 ∷ hex_of d.bytes) ds

abbrev pub listed_digests : List Digest → Text
listed_digests [] = codes " empty"
listed_digests (d ∷ ds) = spaced (d ∷ ds)

abbrev pub answer_text : Answer → Text
answer_text (Entered place) = codes "entered at place " ++ decimal place
answer_text (Top count root) = codes "the top of " ++ (decimal count ++ (codes " is " ++ hex_of root.bytes))
answer_text (Way place count path) = codes "the way of place " ++ (decimal place ++ (codes " of " ++ (decimal count ++ (codes " is" ++ listed_digests (vec_items path)))))
answer_text (Proof from to proof) = codes "the proof from " ++ (decimal from ++ (codes " to " ++ (decimal to ++ (codes " is" ++ listed_digests (vec_items proof)))))
answer_text (Leads place count) = codes "that leads from place " ++ (decimal place ++ (codes " to the top of " ++ decimal count))
answer_text (GoesOn from to) = codes "that goes on from " ++ (decimal from ++ (codes " to " ++ decimal to))

abbrev pub refusal_text : Refusal → Text
refusal_text NotThere = codes "refused, 2: a place or a count that isn't there"
refusal_text Elsewhere = codes "refused, 6: a way or a proof that leads elsewhere"
refusal_text NoMemory = codes "there is no memory for this command"
