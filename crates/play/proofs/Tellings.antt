-- What was done tells of the texts that were entered. Assumes nothing.
use Rattle.std.proofs.Common.{◌≡◌, ℕ, ◌≤◌, ◌⊎◌, List, [], ◌∷◌, ◌++◌, length, take, Ok, Err, vec_items, Result, Vec, sym, ap, ◌∙◌, subst, inl, inr, ⊎_elim, append-nil, arith, length-take-le, Bor, MatchResult}
use lib.ListN.{length-map}
use Rattle.std.specs.List.{AllByRecursion}
use Rattle.std.specs.declared.alloc.Global.{Global}
use Rattle.std.proofs.lemmas.List.{map-append, take-map}
use Rattle.merkle_theory.specs.Bytes.{Bytes}
use Rattle.merkle_theory.specs.Claims.{Stands}
use Rattle.merkle_theory.specs.Texts.{Collision, path_texts, root_texts}
use Rattle.merkle_theory.specs.Tree.{PathLeads}
use Rattle.merkle.specs.declared.digest.Digest.{Digest}
use Rattle.merkle.specs.Digests.{leaf_of, node_of}
use Rattle.merkle_tree.specs.Layout.{root_of}
use Rattle.merkle_binding.specs.Bytes.{Sized, all_bytes, by_sha256}
use Rattle.merkle_binding.specs.Entries as entries
use Rattle.merkle_binding.proofs.Entries.{path-tells_entry}
use Rattle.script.specs.declared.command.Command.{Command}
use Rattle.script.specs.declared.command.Command.TheVariants as command
use Rattle.play.specs.declared.answer.Answer.{Answer}
use Rattle.play.specs.declared.answer.Refusal.{Refusal}
use Rattle.play.specs.Played.{Done, Refuses, grown}
use Rattle.play.specs.Told.{KeepsTexts, Tells, entered}

told : (ys : List Bytes) (count place : ℕ) (x : Bytes) (ps : List Digest) → length ys ≡ count → AllByRecursion Sized ps → PathLeads node_of count place (leaf_of x) ps (root_of (entries.row_of ys)) →
    Stands ys place x ⊎ Collision by_sha256 (root_texts by_sha256 ys ++ path_texts by_sha256 count place x (all_bytes ps))
told ys count place x ps e sized leads =
    subst
    (λ (n : ℕ).
    PathLeads node_of n place (leaf_of x) ps (root_of (entries.row_of ys)) →
    Stands ys place x ⊎ Collision by_sha256 (root_texts by_sha256 ys ++ path_texts by_sha256 n place x (all_bytes ps)))
    e
    (λ l. ⊎_elim (λ p. inl p.0) inr (path-tells_entry ys place x ps sized l))
    leads

leads_tells : (place count : ℕ) (text : Bor Bytes) (path : Vec Digest Global) (xs : List Bytes) → count ≤ length xs →
    PathLeads node_of count place (leaf_of text.now) (vec_items path) (root_of (take count (entries.row_of xs))) → Tells (command.Leads place count text path) xs
leads_tells place count text path xs within leads sized =
    told (take count xs) count place text.now (vec_items path) (length-take-le count xs within) sized
    (subst (λ (row : List Digest). PathLeads node_of count place (leaf_of text.now) (vec_items path) (root_of row)) (take-map leaf_of count xs) leads)

row_of_texts : (c : Command) (xs : List Bytes) → grown c (entries.row_of xs) ≡ entries.row_of (xs ++ entered c)
row_of_texts (command.Enter text) xs = sym (map-append leaf_of xs (text.now ∷ []))
row_of_texts command.Top xs = ap entries.row_of (sym (append-nil xs))
row_of_texts (command.TopOf count) xs = ap entries.row_of (sym (append-nil xs))
row_of_texts (command.Way place count) xs = ap entries.row_of (sym (append-nil xs))
row_of_texts (command.Proof from to) xs = ap entries.row_of (sym (append-nil xs))
row_of_texts (command.Leads place count text path) xs = ap entries.row_of (sym (append-nil xs))
row_of_texts (command.GoesOn from to proof) xs = ap entries.row_of (sym (append-nil xs))

done_tells : (c : Command) (xs : List Bytes) (a : Answer) (after : List Digest) → Done c (entries.row_of xs) a after → Tells c xs
done_tells (command.Enter text) xs a after d = tt
done_tells command.Top xs a after d = tt
done_tells (command.TopOf count) xs a after d = tt
done_tells (command.Way place count) xs a after d = tt
done_tells (command.Proof from to) xs a after d = tt
done_tells (command.Leads place count text path) xs a after d =
    leads_tells place count text path xs (omega (arith, d.there.1, length-map xs leaf_of)) d.right
done_tells (command.GoesOn from to proof) xs a after d = tt

pub keeps_texts : (c : Command) (ds : List Digest) (r : Result Answer Refusal) (after : List Digest) →
    MatchResult r (λ a. Done c ds a after) (λ e. Refuses c ds e × (after ≡ ds)) → KeepsTexts c ds r after
keeps_texts c ds (Ok a) after d xs e =
    let done : Done c (entries.row_of xs) a after = subst (λ (row : List Digest). Done c row a after) e d in
    (done.row ∙ row_of_texts c xs, done_tells c xs a after done)
keeps_texts c ds (Err f) after d xs e = d.1 ∙ e
