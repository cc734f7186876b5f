-- Public keys and their data objects (BSI TR-03110-3, public key data objects for RSA and for elliptic curves). The
-- limits in bytes are this project's own.
use Rattle.std.specs.Prelude.{ℕ, ◌+◌, List, [], ◌∷◌, ◌++◌, length, Bool, ◌&&◌, ◌||◌, not, nat_lt, nat_le, ◌==◌, if◌then◌else◌}
use Rattle.eac_base.specs.Bytes.{is_within, is_empty}
use Rattle.tlv_core.specs.Object.{object, are_objects}
use Rattle.signature_provider.specs.declared.key.Algorithm.{Algorithm}
use Rattle.signature_provider.specs.declared.key.Key.{Key}
use Rattle.signature_provider.specs.declared.key.KeyForm.{KeyForm}

-- ---- parts of a key

-- Below RSA or below ECDSA, with a last number of one byte.
abbrev pub is_algorithm : Algorithm → Bool
is_algorithm a = is_within 1 2 a.arc && nat_lt a.last 128

abbrev pub is_elliptic : Algorithm → Bool
is_elliptic a = a.arc == 2

abbrev pub same_algorithm : Algorithm → Algorithm → Bool
same_algorithm a b = (a.arc == b.arc) && (a.last == b.last)

-- The prime, the two coefficients, the base point and its order.
abbrev pub domain_tags : List ℕ
domain_tags = 0x81 ∷ 0x82 ∷ 0x83 ∷ 0x84 ∷ 0x85 ∷ []

abbrev pub is_domain : List ℕ → Bool
is_domain bytes = are_objects domain_tags bytes

-- Nothing, or the cofactor's object.
abbrev pub is_cofactor : List ℕ → Bool
is_cofactor bytes = is_empty bytes || are_objects (0x87 ∷ []) bytes

-- The modulus and the exponent.
abbrev pub is_rsa_point : List ℕ → Bool
is_rsa_point bytes = are_objects (0x81 ∷ 0x82 ∷ []) bytes

-- ---- keys and forms

-- The parts of an elliptic key: a point, and its domain with an optional cofactor or neither.
abbrev pub is_elliptic_key : List ℕ → List ℕ → List ℕ → Bool
is_elliptic_key domain point cofactor = not (is_empty point)
    && ((is_domain domain && is_cofactor cofactor) || (is_empty domain && is_empty cofactor))

-- The parts of an RSA key: the point alone.
abbrev pub is_rsa_key : List ℕ → List ℕ → List ℕ → Bool
is_rsa_key domain point cofactor = is_empty domain && is_empty cofactor && is_rsa_point point

abbrev pub is_key : Key → Bool
is_key k = is_algorithm k.algorithm
    && (if is_elliptic k.algorithm then is_elliptic_key k.domain k.point k.cofactor
    else is_rsa_key k.domain k.point k.cofactor)

abbrev pub has_domain : Key → Bool
has_domain k = not (is_empty k.domain)

-- A new elliptic key has its domain.
abbrev pub is_form : KeyForm → Bool
is_form f = is_algorithm f.algorithm && nat_le (length f.domain + length f.cofactor) 640
    && (if is_elliptic f.algorithm then is_domain f.domain && is_cofactor f.cofactor
    else is_empty f.domain && is_empty f.cofactor)

-- ---- the key's data object

-- 0.4.0.127.0.7.2.2.2 and the algorithm's two numbers.
abbrev pub algorithm_identifier : Algorithm → List ℕ
algorithm_identifier a = 0x04 ∷ 0x00 ∷ 0x7f ∷ 0x00 ∷ 0x07 ∷ 0x02 ∷ 0x02 ∷ 0x02 ∷ a.arc ∷ a.last ∷ []

-- What stands behind the identifier.
abbrev pub key_values : Key → List ℕ
key_values k = if is_elliptic k.algorithm then k.domain ++ object 0x86 k.point ++ k.cofactor else k.point

abbrev pub key_content : Key → List ℕ
key_content k = object 0x06 (algorithm_identifier k.algorithm) ++ key_values k

abbrev pub key_object : Key → List ℕ
key_object k = object 0x7f49 (key_content k)

-- The whole object is within its limit.
abbrev pub key_fits : Key → Bool
key_fits k = nat_le (length (key_object k)) 1024
