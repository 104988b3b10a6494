-- bytes and words that are read as they were written
use Rattle.std.proofs.Common.{◌≡◌, ℕ, ◌+◌, ◌<◌, ◌≤◌, ◌==◌, Bool, true, false, Some, Ok, List, [], ◌++◌, length, get_or, take, flat_map, refl, sym, ap, ◌∙◌, arith}
use Rattle.std.proofs.lemmas.Bool.{le-leb}
use Rattle.std.proofs.lemmas.List.{flat_map_more, take_more}
use Rattle.hex.specs.Hex.{IsBytes}
use Rattle.hex.proofs.HexLemmas.{decode_sized-encode_lower}
use Rattle.serde_json.specs.Data.{Data, number, unsigned}
use Rattle.serde_json.specs.Find.{get}
use Rattle.chi_lanes.specs.Bytes.{little_bytes}
use Rattle.chi_json.specs.Members.{number_of}
use Rattle.chi_json.specs.Object.{IsReadBack, byte_order, word_bytes}

-- the text of some bytes is read as the bytes
pub bytes_read : (bytes : List ℕ) (n : ℕ) → length bytes ≡ n → IsBytes bytes → IsReadBack n bytes
bytes_read bytes n long are = decode_sized-encode_lower bytes n long are

-- the bytes of one word more
pub word_more : (words : List ℕ) (i d : ℕ) (before after : List ℕ) → i < length words → before ≡ word_bytes (take i words)
    → after ≡ before ++ little_bytes 8 (get_or words i d) → after ≡ word_bytes (take (i + 1) words)
word_more words i d before after below so_far word =
    word ∙ (ap (λ l. l ++ little_bytes 8 (get_or words i d)) so_far
    ∙ (flat_map_more (little_bytes 8) [] (take i words) (get_or words i d) ∙ ap (λ l. flat_map (little_bytes 8) l) (sym (take_more words i d below))))

-- a number that is there, and is not too great
pub number_here : {M : Type 0} (name_of : M → List ℕ) (m : M) (top n : ℕ) (d : Data) → get (name_of m) d ≡ Some (number (unsigned n)) → n ≤ top → number_of name_of m top d ≡ Ok n
unfolding number_of
number_here name_of m top n d at within = rw (at, le-leb n top within) refl

-- a byte order is read as it was written
pub order_here : (endian : Bool) → (byte_order endian == 1) ≡ endian
order_here true = refl
order_here false = refl

pub order_within : (endian : Bool) → byte_order endian ≤ 1
order_within true = omega arith
order_within false = omega arith
