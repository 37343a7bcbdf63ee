-- What a line says, word by word, and what can be wrong with one. Assumes nothing.
use Rattle.std.specs.Prelude.{MatchResult, ◌≡◌, ℕ, ◌-◌, ◌<◌, Bool, false, cond, ◌||◌, ◌⊎◌, List, [], ◌∷◌, map, length, take, drop, Some, None, Ok, Err, vec_items, codes, Option, Result, ◌==◌, nat_le, slice_index_or}
use Rattle.std.specs.Borrow.{Bor}
use Rattle.std.specs.Str.{bytes_eq}
use Rattle.merkle.specs.declared.digest.Digest.{Digest}
use Rattle.script.specs.declared.command.Command.{Command}
use Rattle.script.specs.declared.command.Command.TheVariants.{Enter, Top, TopOf, Way, Proof, Leads, GoesOn}
use Rattle.script.specs.declared.command.Fault.{Fault}
use Rattle.script.specs.declared.command.Fault.TheVariants.{UnknownCommand, Takes, NotANumber, NotADigest, NoMemory}
use Rattle.script.specs.declared.command.Verb.{Verb}
use Rattle.script.specs.Texts.{Decimal, NoDecimal, Hex, NoHex}

abbrev pub Word : Type 0
Word = List ℕ

-- the words that parts of a line hold
abbrev pub texts : List (Bor Word) → List Word
texts ws = map (λ w. w.now) ws

-- each word writes the digest at its place
abbrev pub Hexes : List Word → List Digest → Type 0
Hexes [] [] = Unit {0}
Hexes [] (d ∷ ds) = ⊥
Hexes (w ∷ ws) [] = ⊥
Hexes (w ∷ ws) (d ∷ ds) = Hex w d × Hexes ws ds

-- the command that words say
abbrev pub Says : Command → List Word → Type 0
Says (Enter text) ws = ws ≡ codes "enter" ∷ (text.now ∷ [])
Says Top ws = ws ≡ codes "top" ∷ []
Says (TopOf count) ws = (w : Word) × (ws ≡ codes "top" ∷ (w ∷ [])) × Decimal w count
Says (Way place count) ws = (v : Word) × (w : Word) × (ws ≡ codes "way" ∷ (v ∷ (w ∷ []))) × Decimal v place × Decimal w count
Says (Proof from to) ws = (v : Word) × (w : Word) × (ws ≡ codes "proof" ∷ (v ∷ (w ∷ []))) × Decimal v from × Decimal w to
Says (Leads place count text path) ws =
    (v : Word) × (w : Word) × (hs : List Word) × (ws ≡ codes "leads" ∷ (v ∷ (w ∷ (text.now ∷ hs)))) × Decimal v place × Decimal w count × Hexes hs (vec_items path)
Says (GoesOn from to proof) ws =
    (v : Word) × (w : Word) × (hs : List Word) × (ws ≡ codes "goes-on" ∷ (v ∷ (w ∷ hs))) × Decimal v from × Decimal w to × Hexes hs (vec_items proof)

-- how many words a verb takes behind it; none fit what is no verb
abbrev pub takes : Word → ℕ → Bool
takes v n =
    cond (bytes_eq v (codes "enter")) (n == 1)
    (cond (bytes_eq v (codes "top")) (nat_le n 1)
    (cond (bytes_eq v (codes "way") || bytes_eq v (codes "proof")) (n == 2)
    (cond (bytes_eq v (codes "leads")) (nat_le 3 n)
    (cond (bytes_eq v (codes "goes-on")) (nat_le 2 n) false))))

abbrev pub name : Verb → Word
name Verb.Enter = codes "enter"
name Verb.Top = codes "top"
name Verb.Way = codes "way"
name Verb.Proof = codes "proof"
name Verb.Leads = codes "leads"
name Verb.GoesOn = codes "goes-on"

abbrev pub verbs : List Word
verbs = name Verb.Enter ∷ (name Verb.Top ∷ (name Verb.Way ∷ (name Verb.Proof ∷ (name Verb.Leads ∷ (name Verb.GoesOn ∷ [])))))

-- one of the words is w
abbrev pub Stands : List Word → Word → Type 0
Stands ws w = (k : ℕ) × (k < length ws) × (slice_index_or ws k [] ≡ w)

-- of the words behind a verb, those that are to be numbers, and those that are to be digests
abbrev pub numbers_of : Word → List Word → List Word
numbers_of v ws = take (cond (bytes_eq v (codes "enter")) 0 (cond (bytes_eq v (codes "top")) 1 2)) ws

abbrev pub digests_of : Word → List Word → List Word
digests_of v ws = cond (bytes_eq v (codes "leads")) (drop 3 ws) (cond (bytes_eq v (codes "goes-on")) (drop 2 ws) [])

-- how a verb is spoken
abbrev pub usage_of : Word → Word
usage_of v =
    cond (bytes_eq v (codes "enter")) (codes "enter TEXT")
    (cond (bytes_eq v (codes "top")) (codes "top, or top COUNT")
    (cond (bytes_eq v (codes "way")) (codes "way PLACE COUNT")
    (cond (bytes_eq v (codes "proof")) (codes "proof FROM TO")
    (cond (bytes_eq v (codes "leads")) (codes "leads PLACE COUNT TEXT DIGEST..")
    (cond (bytes_eq v (codes "goes-on")) (codes "goes-on FROM TO DIGEST..") [])))))

-- what a fault says of the words is so
abbrev pub Wrong : List Word → Fault → Type 0
Wrong ws (UnknownCommand w) = (slice_index_or ws 0 [] ≡ w.now) × (Stands verbs w.now → ⊥)
Wrong ws (Takes usage) = (usage.now ≡ usage_of (slice_index_or ws 0 [])) × (takes (slice_index_or ws 0 []) (length ws - 1) ≡ false)
Wrong ws (NotANumber w) = Stands (numbers_of (slice_index_or ws 0 []) (drop 1 ws)) w.now × NoDecimal w.now
Wrong ws (NotADigest w) = Stands (digests_of (slice_index_or ws 0 []) (drop 1 ws)) w.now × NoHex w.now
Wrong ws NoMemory = Unit {0}

-- one of two words is no number
abbrev pub BadNumber : Word → Word → Fault → Type 0
BadNumber v w f = (x : Bor Word) × (f ≡ NotANumber x) × ((x.now ≡ v) ⊎ (x.now ≡ w)) × NoDecimal x.now

-- one of the words is no digest, or there was no memory for them
abbrev pub BadDigest : List Word → Fault → Type 0
BadDigest ws f = ((x : Bor Word) × (f ≡ NotADigest x) × Stands ws x.now × NoHex x.now) ⊎ (f ≡ NoMemory)

-- words say the command that is read of them, or what is wrong with them is so
abbrev pub SaysOrWrong : List Word → Result Command Fault → Type 0
SaysOrWrong ws r = MatchResult r (λ c. Says c ws) (Wrong ws)

-- what a line with these words is read as
abbrev pub Line : List Word → Result (Option Command) Fault → Type 0
Line ws (Ok None) = ws ≡ []
Line ws (Ok (Some c)) = Says c ws
Line ws (Err f) = Wrong ws f

-- words that say a command have nothing wrong with them, though memory may be wanting for it
abbrev pub FaultsAreFaults : Type 0
FaultsAreFaults = (c : Command) (ws : List Word) (f : Fault) → Says c ws → Wrong ws f → f ≡ NoMemory
