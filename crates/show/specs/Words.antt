-- Messages in words. Assumes nothing.
use Rattle.std.specs.Prelude.{ℕ, cond, List, ◌∷◌, ◌++◌, length, Some, None, codes, decimal, Option, ◌==◌}
use Rattle.std.specs.List.{flat_map}
use Rattle.model.specs.Objects.{Certificate}
use Rattle.script.specs.Texts.{hex_of}
use Rattle.script.specs.Texts as texts
use Rattle.wire_theory.specs.Bytes.{Bytes}
use Rattle.wire_theory.specs.Messages.{SignedSct, SignedHead, SignedList, MonitorAnswer, Message}
use Rattle.wire_theory.specs.Messages.{certificate, sct, head, list, order, challenge, published, submit, get_head, get_inclusion, get_consistency, get_entries, revoke, get_list, bring, present}
use Rattle.wire_theory.specs.Messages.{inclusion, consistency, entries, answer, accepted, refused, included, not_due, convicts, no_head_so_late}
use Rattle.wire.specs.declared.refusal.Refusal.{Refusal}
use Rattle.wire.specs.declared.refusal.Refusal.TheVariants as refusal
use Rattle.wire.specs.declared.refusal.Part.TheVariants as part
use Rattle.wire.specs.Refusals.{cause_text, refusal_number}

abbrev pub Text : Type 0
Text = List ℕ

-- a byte of a name: printable ASCII as it is, others as \xNN
abbrev pub shown_byte : ℕ → Text
shown_byte b = texts.shown_byte 32 b

-- a name between quotes, with its length
abbrev pub name_text : Bytes → Text
name_text name = codes "\"" ++ (flat_map shown_byte name ++ (codes "\" (" ++ (decimal (length name) ++ codes " bytes)")))

abbrev pub certificate_text : Certificate → Text
certificate_text c =
    codes "certificate of authority "
    ++ (decimal c.issuer
    ++ (codes " for "
    ++ (name_text c.name
    ++ (codes ", serial "
    ++ (decimal c.serial
    ++ (codes ", good until tick " ++ (decimal c.expiry ++ (codes ", key " ++ (hex_of c.key ++ (codes ", signature " ++ hex_of c.seal))))))))))

abbrev pub sct_text : SignedSct → Text
sct_text p =
    codes "promise of log "
    ++ (decimal p.log
    ++ (codes " at tick " ++ (decimal p.at ++ (codes " for the certificate with digest " ++ (hex_of p.digest ++ (codes ", signature " ++ hex_of p.seal))))))

abbrev pub head_text : SignedHead → Text
head_text h =
    codes "head of log "
    ++ (decimal h.log
    ++ (codes " at tick "
    ++ (decimal h.at ++ (codes " with " ++ (decimal h.count ++ (codes " entries and root " ++ (hex_of h.root ++ (codes ", signature " ++ hex_of h.seal))))))))

-- each behind a blank
abbrev pub listed_digests : List Bytes → Text
listed_digests ds = flat_map (λ d. 32 ∷ hex_of d) ds

abbrev pub listed_serials : List ℕ → Text
listed_serials ns = flat_map (λ n. 32 ∷ decimal n) ns

-- each on a line
abbrev pub listed_certificates : List Certificate → Text
listed_certificates cs = flat_map (λ c. 10 ∷ certificate_text c) cs

abbrev pub list_text : SignedList → Text
list_text l =
    codes "revocation list of authority "
    ++ (decimal l.authority
    ++ (codes " at tick "
    ++ (decimal l.at ++ (codes " with " ++ (decimal (length l.serials) ++ (codes " serials:" ++ (listed_serials l.serials ++ (codes ", signature " ++ hex_of l.seal))))))))

-- digests behind their count
abbrev pub digests_text : List Bytes → Text
digests_text ds = decimal (length ds) ++ (codes " digests:" ++ listed_digests ds)

abbrev pub answer_text : MonitorAnswer → Text
answer_text (included h place path) = codes "included at place " ++ (decimal place ++ (codes " below the " ++ (head_text h ++ (codes ", path of " ++ digests_text path))))
answer_text not_due = codes "not due"
answer_text (convicts h digests) = codes "what convicts: " ++ (head_text h ++ (codes ", " ++ digests_text digests))
answer_text no_head_so_late = codes "no head so late"

-- what is refused with a number
abbrev pub cause_of : ℕ → Text
cause_of n =
    cond (n == 1) (cause_text refusal.Unreadable)
    (cond (n == 2) (cause_text refusal.NotThere)
    (cond (n == 3) (cause_text refusal.WrongSignature)
    (cond (n == 4) (cause_text refusal.NotPublished)
    (cond (n == 5) (cause_text refusal.OldHead)
    (cond (n == 6) (cause_text refusal.LeadsElsewhere)
    (cond (n == 7) (cause_text refusal.OtherRoot)
    (cond (n == 8) (cause_text refusal.OtherPromise)
    (cond (n == 9) (cause_text refusal.Expired)
    (cond (n == 10) (cause_text refusal.NoFreshList)
    (cond (n == 11) (cause_text refusal.Revoked)
    (cond (n == 12) (cause_text refusal.Full)
    (cond (n == 13) (cause_text (refusal.DoesNotConvict part.OneLog))
    (cond (n == 14) (cause_text refusal.UsedUp) (codes "no cause has this number"))))))))))))))

abbrev pub message_text : Message → Text
message_text (certificate c) = certificate_text c
message_text (sct p) = sct_text p
message_text (head h) = head_text h
message_text (list l) = list_text l
message_text (order name key) = codes "order for " ++ (name_text name ++ (codes " with key " ++ hex_of key))
message_text (challenge serial nonce) = codes "challenge with serial " ++ (decimal serial ++ (codes " and nonce " ++ hex_of nonce))
message_text (published serial) = codes "published: the response to the challenge with serial " ++ decimal serial
message_text (submit c) = codes "submit the " ++ certificate_text c
message_text get_head = codes "get the head"
message_text (get_inclusion place count) = codes "get the path of place " ++ (decimal place ++ (codes " among " ++ decimal count))
message_text (get_consistency from to) = codes "get the consistency proof from " ++ (decimal from ++ (codes " to " ++ decimal to))
message_text (get_entries from to) = codes "get the entries from " ++ (decimal from ++ (codes " to before " ++ decimal to))
message_text (revoke serial seal) = codes "revoke serial " ++ (decimal serial ++ (codes ", signature " ++ hex_of seal))
message_text get_list = codes "get the revocation list"
message_text (bring c p) = codes "brought: " ++ (certificate_text c ++ (codes "; " ++ sct_text p))
message_text (present c p q) = codes "to accept: " ++ (certificate_text c ++ (codes "; " ++ (sct_text p ++ (codes "; " ++ sct_text q))))
message_text (inclusion path) = codes "path of " ++ digests_text path
message_text (consistency path) = codes "consistency proof of " ++ digests_text path
message_text (entries cs) = codes "entries:" ++ listed_certificates cs
message_text (answer a) = answer_text a
message_text accepted = codes "accepted"
message_text (refused cause) = codes "refused, " ++ (decimal cause ++ (codes ": " ++ cause_of cause))

-- a refusal's number, if it has one, and its cause
abbrev numbered : Option ℕ → Text → Text
numbered None cause = cause
numbered (Some n) cause = codes "refused, " ++ (decimal n ++ (codes ": " ++ cause))

abbrev pub refusal_text : Refusal → Text
refusal_text e = numbered (refusal_number e) (cause_text e)
