-- What certificates, reading and writing have to do with each other.
use Rattle.std.specs.Prelude.{◌≡◌, List, ℕ, Ok}
use Rattle.eac_base.specs.Bytes.{AreBytes}
use Rattle.cvc_grammar.specs.declared.certificate.Cert.{Cert}
use Rattle.cvc_grammar.specs.Certificate.{IsCert}
use Rattle.cvc_grammar.specs.ReadingOrder.{read_cert}

-- A legal certificate has one text.
abbrev pub OneText : Type 0
OneText = (c : Cert) (one other : List ℕ) → IsCert c one → IsCert c other → one ≡ other

-- A text is of one certificate.
abbrev pub OneCert : Type 0
OneCert = (c d : Cert) (bytes : List ℕ) → IsCert c bytes → IsCert d bytes → c ≡ d

-- What was written is read.
abbrev pub ReadAfterWrite : Type 0
ReadAfterWrite = (c : Cert) (bytes : List ℕ) → IsCert c bytes → read_cert bytes ≡ Ok c

-- What was read is the certificate's one text.
abbrev pub WriteAfterRead : Type 0
WriteAfterRead = (c : Cert) (bytes : List ℕ) → AreBytes bytes → read_cert bytes ≡ Ok c → IsCert c bytes
