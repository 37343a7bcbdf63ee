-- What each command asks, and what it is answered by, over the leaf digests ds of the entries so far. Assumes nothing.
use Rattle.std.specs.Prelude.{◌≡◌, ◌≤◌, List, [], ◌∷◌, ◌++◌, length, take, Ok, Err, vec_items, Result, Vec}
use Rattle.std.specs.declared.alloc.Global.{Global}
use Rattle.merkle_theory.specs.Tree.{PathLeads, ConsistencyLeads}
use Rattle.merkle.specs.declared.digest.Digest.{Digest}
use Rattle.merkle.specs.Digests.{leaf_of, node_of}
use Rattle.merkle_tree.specs.Answer.{GrowthAmong, LeafAmong, consistency_of, path_of}
use Rattle.merkle_tree.specs.Layout.{root_of}
use Rattle.merkle_tree.specs.View.{leaves_of}
use Rattle.script.specs.declared.command.Command.{Command}
use Rattle.script.specs.declared.command.Command.TheVariants as command
use Rattle.play.specs.declared.answer.Answer.{Answer}
use Rattle.play.specs.declared.answer.Answer.TheVariants.{Entered, Top, Way, Proof, Leads, GoesOn}
use Rattle.play.specs.declared.answer.Refusal.{Refusal}
use Rattle.play.specs.declared.answer.Refusal.TheVariants.{NotThere, Elsewhere, NoMemory}
use Rattle.play.specs.declared.harbour.Harbour.{Harbour}

-- the leaf digests of the entries
abbrev pub row_of : Harbour → List Digest
row_of h = leaves_of h.entries

-- the places and counts that the command names are there
abbrev pub There : Command → List Digest → Type 0
There (command.Enter text) ds = Unit {0}
There command.Top ds = Unit {0}
There (command.TopOf count) ds = count ≤ length ds
There (command.Way place count) ds = LeafAmong place count ds
There (command.Proof from to) ds = GrowthAmong from to ds
There (command.Leads place count text path) ds = LeafAmong place count ds
There (command.GoesOn from to proof) ds = GrowthAmong from to ds

-- the way or the proof that it brings leads to the tops
abbrev pub Right : Command → List Digest → Type 0
Right (command.Enter text) ds = Unit {0}
Right command.Top ds = Unit {0}
Right (command.TopOf count) ds = Unit {0}
Right (command.Way place count) ds = Unit {0}
Right (command.Proof from to) ds = Unit {0}
Right (command.Leads place count text path) ds = PathLeads node_of count place (leaf_of text.now) (vec_items path) (root_of (take count ds))
Right (command.GoesOn from to proof) ds = ConsistencyLeads node_of from to (root_of (take from ds)) (root_of (take to ds)) (vec_items proof)

-- these digests, in a Vec
abbrev pub Holds : (Vec Digest Global → Answer) → List Digest → Answer → Type 0
Holds made ds a = (v : Vec Digest Global) × (a ≡ made v) × (vec_items v ≡ ds)

abbrev pub Answers : Command → List Digest → Answer → Type 0
Answers (command.Enter text) ds a = a ≡ Entered (length ds)
Answers command.Top ds a = a ≡ Top (length ds) (root_of ds)
Answers (command.TopOf count) ds a = a ≡ Top count (root_of (take count ds))
Answers (command.Way place count) ds a = Holds (Way place count) (path_of place (take count ds)) a
Answers (command.Proof from to) ds a = Holds (Proof from to) (consistency_of from (take to ds)) a
Answers (command.Leads place count text path) ds a = a ≡ Leads place count
Answers (command.GoesOn from to proof) ds a = a ≡ GoesOn from to

-- the row after it: only entering makes it longer
abbrev pub grown : Command → List Digest → List Digest
grown (command.Enter text) ds = ds ++ (leaf_of text.now ∷ [])
grown command.Top ds = ds
grown (command.TopOf count) ds = ds
grown (command.Way place count) ds = ds
grown (command.Proof from to) ds = ds
grown (command.Leads place count text path) ds = ds
grown (command.GoesOn from to proof) ds = ds

-- what is asked for is there, and is answered; or it isn't, or memory was wanting
abbrev pub Finds : Type 0 → (Answer → Type 0) → Result Answer Refusal → Type 0
Finds P Q (Ok a) = P × Q a
Finds P Q (Err NotThere) = P → ⊥
Finds P Q (Err Elsewhere) = ⊥
Finds P Q (Err NoMemory) = P

-- a check of what is there: it is right, and so is answered, or it isn't
abbrev pub Checks : Type 0 → Type 0 → Answer → Result Answer Refusal → Type 0
Checks P Q said (Ok a) = P × Q × (a ≡ said)
Checks P Q said (Err NotThere) = P → ⊥
Checks P Q said (Err Elsewhere) = P × (Q → ⊥)
Checks P Q said (Err NoMemory) = ⊥

-- it makes something new, so that memory may be wanting
abbrev pub Makes : Command → Type 0
Makes (command.Enter text) = Unit {0}
Makes command.Top = ⊥
Makes (command.TopOf count) = ⊥
Makes (command.Way place count) = Unit {0}
Makes (command.Proof from to) = Unit {0}
Makes (command.Leads place count text path) = ⊥
Makes (command.GoesOn from to proof) = ⊥

-- why it is refused
abbrev pub Refuses : Command → List Digest → Refusal → Type 0
Refuses c ds NotThere = There c ds → ⊥
Refuses c ds Elsewhere = There c ds × (Right c ds → ⊥)
Refuses c ds NoMemory = There c ds × Makes c

-- a command was done
pub record Done (c : Command) (ds : List Digest) (a : Answer) (after : List Digest) : Type 0 where
  pub there : There c ds
  pub right : Right c ds
  pub answer : Answers c ds a
  pub row : after ≡ grown c ds
