-- More texts, and more events, take nothing away from what a state stands for. Assumes nothing.
use Rattle.std.proofs.Common.{◌≡◌, ℕ, ◌≤◌, List, Some, None, Option, le_trans}
use Rattle.model.specs.Lists.{◌∈◌}
use Rattle.model.specs.Objects.{Certificate, Sct, TreeHead, Revocation}
use Rattle.model.specs.Objects.Signed.{Issued, Promised}
use Rattle.model.specs.World.{Event}
use Rattle.model.specs.World.Event.{Signs, Revokes}
use Rattle.wire_theory.specs.Bytes.{Bytes}
use Rattle.wire_theory.specs.Messages.{SignedSct, SignedHead, SignedList}
use Rattle.parties.specs.Log.{LogView}
use Rattle.parties.specs.Monitor.{Seen}
use Rattle.parties.specs.Authority.{AuthorityView}
use Rattle.parties.specs.RelyingParty.{Kept}
use Rattle.system.specs.Setup.{Setup}
use Rattle.system.specs.Runs.{Sealed, Place}
use Rattle.system.specs.Runs.Sealed.{SealedCertificate, SealedSct, SealedHead, SealedList}
use Rattle.system.specs.Stands.{Texted, AllTexted, Within, SctStands, HeadStands, SealedStands, PlaceStands, LogStands, SeenStands, AuthorityStands, ListStands, KeptStands}

-- all of these events are among those
abbrev pub Among : List Event → List Event → Type 0
Among es fs = (e : Event) → e ∈ es → e ∈ fs

module _ (S : Setup) {ts us : List Bytes} (more : Within S ts us) where
  pub texted_more : {c : Certificate} → Texted S ts c → Texted S us c
  texted_more x = record { readable = x.readable; text = more _ x.text }

  pub all_texted_more : {cs : List Certificate} → AllTexted S ts cs → AllTexted S us cs
  all_texted_more h c m = texted_more (h c m)

  module _ {es fs : List Event} (later : Among es fs) where
    sct_more : {p : SignedSct} → SctStands S ts es p → SctStands S us fs p
    sct_more x = record { certificate = x.certificate; promised = later _ x.promised; digest = x.digest; texted = texted_more x.texted }

    head_more : {h : SignedHead} → HeadStands S ts es h → HeadStands S us fs h
    head_more x = record
        { entries = x.entries; headed = later _ x.headed; count = x.count; root = x.root; texted = all_texted_more x.texted; texts = λ t m. more t (x.texts t m) }

    pub sealed_more : (x : Sealed) → SealedStands S ts es x → SealedStands S us fs x
    sealed_more (SealedCertificate c) h = later _ h
    sealed_more (SealedSct p) h = sct_more h
    sealed_more (SealedHead g) h = head_more h
    sealed_more (SealedList b) h = later _ h

    pub place_more : {f : Place} → PlaceStands S ts es f → PlaceStands S us fs f
    place_more x = record
        { response = x.response; published = later _ x.published; name = x.name; found = x.found; serial = x.serial; nonce = x.nonce; key = x.key; text = more _ x.text }

    pub kept_more : {k : Kept} → KeptStands S ts es k → KeptStands S us fs k
    kept_more x = record { accepted = later _ x.accepted; texted = texted_more x.texted; first = x.first; second = x.second }

    -- a log, if no promise of its own came
    pub log_more : {clock clock' l : ℕ} {v : LogView} {cs : List Certificate} → clock ≤ clock' →
        ((x : Sct) → x.log ≡ l → Signs (Promised x) ∈ fs → Signs (Promised x) ∈ es) → LogStands S ts es clock l v cs → LogStands S us fs clock' l v cs
    log_more c quiet x = record {
      number = x.number;
      early = le_trans x.early c;
      same = x.same;
      merged = all_texted_more x.merged;
      texted = all_texted_more x.texted;
      owed = λ d m. later _ (x.owed d m);
      kept = λ y q h. x.kept y q (quiet y q h);
    }

  pub seen_more : {l : ℕ} {name : Bytes} {x : Seen} {h : TreeHead} → SeenStands S ts l name x h → SeenStands S us l name x h
  seen_more x = record { kept = x.kept; at = x.at; digests = x.digests; texted = all_texted_more x.texted; found = x.found }

module _ (S : Setup) {es fs : List Event} (later : Among es fs) where
  pub list_more : (a : ℕ) (b : Option SignedList) → ListStands S es a b → ListStands S fs a b
  list_more a None h = h
  list_more a (Some b) h = (later _ h.0, h.1)

  -- an authority, if nothing of its own came
  pub authority_more : {clock clock' a next : ℕ} {v : AuthorityView} → clock ≤ clock' →
      ((c : Certificate) → c.issuer ≡ a → Signs (Issued c) ∈ fs → Signs (Issued c) ∈ es) → ((g : Revocation) → g.authority ≡ a → Revokes g ∈ fs → Revokes g ∈ es) →
      AuthorityStands S es clock a v next → AuthorityStands S fs clock' a v next
  authority_more c issued revoked x = record {
    number = x.number;
    early = le_trans x.early c;
    drawn = x.drawn;
    ordered = λ i y q. (later _ (x.ordered i y q).0, (x.ordered i y q).1, (x.ordered i y q).2, (x.ordered i y q).3);
    issued = λ d q h. x.issued d q (issued d q h);
    revoked = λ g q h. x.revoked g q (revoked g q h);
    happened = λ i y t p q. later _ (x.happened i y t p q);
  }
