-- The code's values as the definitions' values. Assumes nothing.
use Rattle.std.specs.Prelude.{ℕ, List, length, map}
use Rattle.model.specs.Objects as model
use Rattle.wire_theory.specs.Bytes.{Bytes, number, row_of, numbers}
use Rattle.wire_theory.specs.Messages as msg
use Rattle.wire_theory.specs.Entries.{certificates_in}
use Rattle.wire.specs.declared.certificate.Certificate.{Certificate}
use Rattle.wire.specs.declared.log.Sct.{Sct}
use Rattle.wire.specs.declared.log.TreeHead.{TreeHead}
use Rattle.wire.specs.declared.list.RevocationList.{RevocationList}
use Rattle.wire.specs.declared.parts.Digests.{Digests}
use Rattle.wire.specs.declared.parts.EachDigest.{EachDigest}
use Rattle.wire.specs.declared.parts.Serials.{Serials}
use Rattle.wire.specs.declared.parts.EachSerial.{EachSerial}
use Rattle.wire.specs.declared.parts.Certificates.{Certificates}
use Rattle.wire.specs.declared.message.MonitorAnswer.{MonitorAnswer}
use Rattle.wire.specs.declared.message.MonitorAnswer.TheVariants as answer
use Rattle.wire.specs.declared.message.Message.{Message}
use Rattle.wire.specs.declared.message.Message.TheVariants as message
use Rattle.wire.specs.declared.evidence.Evidence.{Evidence}
use Rattle.wire.specs.declared.settings.Settings.{Settings}

abbrev pub certificate_of : Certificate → model.Certificate
certificate_of c =
    record {
      issuer = c.issuer;
      name = c.name.now;
      key = c.key.bytes;
      serial = c.serial;
      expiry = c.expiry;
      seal = c.signature.bytes;
    }

abbrev pub sct_of : Sct → msg.SignedSct
sct_of p = record { log = p.log; digest = p.leaf.bytes; at = p.at; seal = p.signature.bytes }

abbrev pub head_of : TreeHead → msg.SignedHead
head_of h = record { log = h.log; at = h.at; count = h.count; root = h.root.bytes; seal = h.signature.bytes }

abbrev pub digests_of : Digests → List Bytes
digests_of ds = row_of 32 ds.bytes.now

abbrev pub serials_of : Serials → List ℕ
serials_of ns = numbers 8 ns.bytes.now

-- what is yet to come
abbrev pub digests_left : EachDigest → List Bytes
digests_left e = e.rest.now

abbrev pub serials_left : EachSerial → List ℕ
serials_left e = map number e.rest.now

abbrev pub certificates_of : Certificates → List model.Certificate
certificates_of cs = certificates_in (length cs.bytes.now) cs.bytes.now

abbrev pub list_of : RevocationList → msg.SignedList
list_of l = record { authority = l.authority; at = l.at; serials = serials_of l.serials; seal = l.signature.bytes }

abbrev pub answer_of : MonitorAnswer → msg.MonitorAnswer
answer_of (answer.Included h place path) = msg.included (head_of h) place (digests_of path)
answer_of answer.NotDue = msg.not_due
answer_of (answer.Convicts h digests) = msg.convicts (head_of h) (digests_of digests)
answer_of answer.NoHeadSoLate = msg.no_head_so_late

abbrev pub message_of : Message → msg.Message
message_of (message.Certificate c) = msg.certificate (certificate_of c)
message_of (message.Sct p) = msg.sct (sct_of p)
message_of (message.TreeHead h) = msg.head (head_of h)
message_of (message.RevocationList l) = msg.list (list_of l)
message_of (message.Order o) = msg.order o.name.now o.key.bytes
message_of (message.Challenge o) = msg.challenge o.serial o.nonce.bytes
message_of (message.Published serial) = msg.published serial
message_of (message.Submit c) = msg.submit (certificate_of c)
message_of message.GetHead = msg.get_head
message_of (message.GetInclusion place count) = msg.get_inclusion place count
message_of (message.GetConsistency from to) = msg.get_consistency from to
message_of (message.GetEntries from to) = msg.get_entries from to
message_of (message.Revoke serial signature) = msg.revoke serial signature.bytes
message_of message.GetList = msg.get_list
message_of (message.Bring c p) = msg.bring (certificate_of c) (sct_of p)
message_of (message.Present c p q) = msg.present (certificate_of c) (sct_of p) (sct_of q)
message_of (message.Inclusion path) = msg.inclusion (digests_of path)
message_of (message.Consistency path) = msg.consistency (digests_of path)
message_of (message.Entries cs) = msg.entries (certificates_of cs)
message_of (message.Answer a) = msg.answer (answer_of a)
message_of message.Accepted = msg.accepted
message_of (message.Refused number) = msg.refused number

abbrev pub evidence_of : Evidence → msg.Evidence
evidence_of e = record { sct = sct_of e.sct; head = head_of e.head; digests = digests_of e.digests }

abbrev pub settings_of : Settings → msg.Settings
settings_of s = record { mmd = s.mmd; freshness = s.freshness; lifetime = s.lifetime }
