-- Owned forms as the definitions' values. Assumes nothing.
use Rattle.std.specs.Prelude.{vec_items}
use Rattle.model.specs.Objects as model
use Rattle.wire_theory.specs.Messages.{SignedList}
use Rattle.wire_write.specs.declared.owned.OwnedCertificate.{OwnedCertificate}
use Rattle.wire_write.specs.declared.owned.OwnedList.{OwnedList}

abbrev pub owned_certificate_of : OwnedCertificate → model.Certificate
owned_certificate_of c =
    record {
      issuer = c.issuer;
      name = vec_items c.name;
      key = c.key.bytes;
      serial = c.serial;
      expiry = c.expiry;
      seal = c.signature.bytes;
    }

abbrev pub owned_list_of : OwnedList → SignedList
owned_list_of l = record { authority = l.authority; at = l.at; serials = vec_items l.serials; seal = l.signature.bytes }
