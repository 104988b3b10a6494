-- a request and a script as values of JSON
use Rattle.std.specs.Prelude.{ℕ, ◌≤◌, replicate, List, map, Option, None, Some, codes}
use Rattle.serde_json.specs.Data.{Data, object, Items, Members, no_members}
use Rattle.serde_json.specs.View.{items_of}
use Rattle.chi_fields.specs.Extent.{Extent}
use Rattle.chi_fields.specs.declared.request.Request.{Request}
use Rattle.chi_json.specs.Object.{with_array, with_bytes, with_number, with_request}
use Rattle.chi_json.specs.Values.{words_of}

-- a request
unfoldable pub request_data : Request → Data
request_data q = object (with_request q no_members)

-- requests
abbrev pub all_data : List Request → Items
all_data requests = items_of (map request_data requests)

-- the bytes at the opening, where they are told
abbrev pub with_image : Option (List ℕ) → Members → Members
with_image None members = members
with_image (Some bytes) members = with_bytes (codes "image") bytes members

-- a script
unfoldable pub script_data : Extent → Option (List ℕ) → List Request → Data
script_data region image requests = object (
    with_array (codes "requests") (all_data requests) (with_image image
    (with_number (codes "granules") region.granules (with_number (codes "base") region.base no_members))))

-- the requester and the size are no greater than a script's
pub record IsSmall (q : Request) : Type 0 where
  pub src : q.src ≤ 7
  pub size : q.size ≤ 7

-- the words at the opening: those of the bytes that are told, and else zeros
abbrev pub image_words : ℕ → Option (List ℕ) → List ℕ
image_words granules None = replicate granules 0
image_words granules (Some bytes) = words_of bytes
