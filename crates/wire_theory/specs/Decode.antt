-- The message that bytes are, told by looking at places. Assumes nothing.
use Rattle.std.specs.Prelude.{ℕ, ◌+◌, ◌-◌, ◌*◌, cond, length, ◌==◌, slice_index}
use Rattle.wire_theory.specs.Bytes.{Bytes, number, numbers, part, row_of}
use Rattle.wire_theory.specs.Entries.{certificate_in, certificates_in}
use Rattle.wire_theory.specs.Messages.{SignedSct, SignedHead, SignedList, Message, Evidence, Settings}
use Rattle.wire_theory.specs.Messages.{certificate, sct, head, list, order, challenge, published, submit, get_head, get_inclusion, get_consistency, get_entries, revoke, get_list, bring, present}
use Rattle.wire_theory.specs.Messages.{inclusion, consistency, entries, answer, accepted, refused, included, not_due, convicts, no_head_so_late}

abbrev pub sct_in : Bytes → SignedSct
sct_in s = record { log = slice_index s 1; digest = part 2 32 s; at = number (part 34 8 s); seal = part 42 64 s }

abbrev pub head_in : Bytes → SignedHead
head_in s = record { log = slice_index s 1; at = number (part 2 8 s); count = number (part 10 8 s); root = part 18 32 s; seal = part 50 64 s }

abbrev pub list_in : Bytes → SignedList
list_in s =
    let n = number (part 10 2 s) in
    record { authority = slice_index s 1; at = number (part 2 8 s); serials = numbers 8 (part 12 (8 * n) s); seal = part (12 + 8 * n) 64 s }

-- all but the first i bytes
abbrev pub behind : ℕ → Bytes → Bytes
behind i s = part i (length s - i) s

unfoldable pub decode_answer : ℕ → Bytes → Message
decode_answer what s =
    cond (what == 1) (answer (included (head_in (part 2 114 s)) (number (part 116 8 s)) (row_of 32 (behind 125 s))))
    (cond (what == 2) (answer not_due)
    (cond (what == 3) (answer (convicts (head_in (part 2 114 s)) (row_of 32 (behind 116 s)))) (answer no_head_so_late)))

-- by the kind; what bytes of no known kind are doesn't matter
unfoldable pub decode_kind : ℕ → Bytes → Message
decode_kind kind s =
    cond (kind == 1) (certificate (certificate_in s))
    (cond (kind == 2) (sct (sct_in s))
    (cond (kind == 3) (head (head_in s))
    (cond (kind == 4) (list (list_in s))
    (cond (kind == 5) (order (part 2 (slice_index s 1) s) (part (2 + slice_index s 1) 32 s))
    (cond (kind == 6) (challenge (number (part 1 8 s)) (part 9 16 s))
    (cond (kind == 7) (published (number (part 1 8 s)))
    (cond (kind == 8) (submit (certificate_in (behind 1 s)))
    (cond (kind == 9) get_head
    (cond (kind == 10) (get_inclusion (number (part 1 8 s)) (number (part 9 8 s)))
    (cond (kind == 11) (get_consistency (number (part 1 8 s)) (number (part 9 8 s)))
    (cond (kind == 12) (get_entries (number (part 1 8 s)) (number (part 9 8 s)))
    (cond (kind == 13) (revoke (number (part 1 8 s)) (part 9 64 s))
    (cond (kind == 14) get_list
    (cond (kind == 15) (bring (certificate_in (part 1 (length s - 107) s)) (sct_in (part (length s - 106) 106 s)))
    (cond (kind == 16) (present (certificate_in (part 1 (length s - 213) s)) (sct_in (part (length s - 212) 106 s)) (sct_in (part (length s - 106) 106 s)))
    (cond (kind == 26) (inclusion (row_of 32 (behind 2 s)))
    (cond (kind == 27) (consistency (row_of 32 (behind 2 s)))
    (cond (kind == 28) (entries (certificates_in (length (behind 1 s)) (behind 1 s)))
    (cond (kind == 29) (decode_answer (slice_index s 1) s)
    (cond (kind == 30) accepted (refused (slice_index s 1))))))))))))))))))))))

abbrev pub decode : Bytes → Message
decode s = decode_kind (slice_index s 0) s

abbrev pub evidence_in : Bytes → Evidence
evidence_in s = record { sct = sct_in (part 0 106 s); head = head_in (part 106 114 s); digests = row_of 32 (behind 220 s) }

abbrev pub settings_in : Bytes → Settings
settings_in s = record { mmd = number (part 0 4 s); freshness = number (part 4 4 s); lifetime = number (part 8 4 s) }
