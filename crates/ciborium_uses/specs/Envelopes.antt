-- Signed messages of COSE (RFC 9052) that hold a CBOR Web Token (RFC 8392): which bytes they are,
-- and what their
-- signatures sign.
use Rattle.std.specs.{BTreeMap.BTreeMap, List.list_all, Prelude.{◌≡◌, ◌≤◌, ℕ, ℤ, pos, List, [], ◌∷◌, codes}}
use Rattle.std.specs.Prelude.{if◌then◌else◌, Bool, IsTrue, true, false, not, nat_le, ◌&&◌, Option, Some, None, map}
use Rattle.std.specs.{Prelude.{option_map, String, string_bytes}, declared.alloc.Global.Global}
use Rattle.ciborium.specs.{Encoding.{encoding, item_of}, Folded.folded, Given.{Outcome, gives, outcome, given_value}}
use Rattle.ciborium.specs.{GivenParts.{has_key, given_map}, Item.Item, Labels.numbered, Lookups.tree_under}
use Rattle.ciborium.specs.{Nesting.nesting, Order.tree_cmp, Spells.Spells, Tree.{Tree, TreePairs, Trees}}
use Rattle.ciborium.specs.{ValueLists.pair_trees, View.tree_of}
use Rattle.ciborium_value.specs.declared.{byte_buf.ByteBuf.ByteBuf, tree.Value.Value}
use Rattle.ciborium_uses.specs.declared.envelopes.{Envelope.Envelope, claims.Claims.Claims}
use Rattle.ciborium_uses.specs.declared.envelopes.error.{EnvelopeError.EnvelopeError, Part.Part}
use Rattle.ciborium_uses.specs.declared.envelopes.wrapping.{OtherMessage.OtherMessage, Wrapping.Wrapping}
use Rattle.ciborium_uses.specs.declared.envelopes.wrapping.Wrapping.TheVariants.{Bare, Signed, Token}
use Rattle.ciborium.specs.Item as item
use Rattle.ciborium.specs.Tree as trees
use Rattle.ciborium_uses.specs.declared.envelopes.error.EnvelopeError.TheVariants as errors
use Rattle.ciborium_uses.specs.declared.envelopes.error.Part.TheVariants as parts
use Rattle.ciborium_uses.specs.declared.envelopes.wrapping.OtherMessage.TheVariants as others

-- ---- items

-- all of the bytes are one item, which gives the tree within 256 levels
abbrev pub IsAllOf : List ℕ → Tree → Type 0
IsAllOf bs t = (i : Item) × Spells bs i × (outcome (Some 256) (given_value i) ≡ gives t)

-- no bytes are to blame: an allocation failed
abbrev pub IsOutside : EnvelopeError → Type 0
IsOutside errors.Memory = Unit {0}
IsOutside _ = ⊥

-- ---- maps of labels

-- a label is an integer, which may be a folded bignum, or a text (RFC 9052, section 1.4; of claims
-- RFC 8392, section 9.1)
abbrev pub is_label : Tree → Bool
is_label (trees.integer z) = true
is_label (trees.text b) = true
is_label _ = false

abbrev pub are_labels : TreePairs → Bool
are_labels trees.no_tree_pairs = true
are_labels (trees.tree_pair k v ps) = is_label k && are_labels ps

-- a map whose keys are labels
abbrev pub is_label_map : Tree → Bool
is_label_map (trees.map ps) = are_labels ps
is_label_map _ = false

-- what a map gives whose keys are all different: its entries, in the order of keys
abbrev pub once_each : Tree → Outcome (List (Tree × Tree))
once_each t = outcome None (given_map true tree_cmp given_value given_value (item_of t))

abbrev pub entries_in : Outcome (List (Tree × Tree)) → List (Tree × Tree)
entries_in (gives es) = es
entries_in _ = []

abbrev pub entries_of : Tree → List (Tree × Tree)
entries_of t = entries_in (once_each t)

-- the entries of a map in memory, by their trees
abbrev pub entry_trees : BTreeMap Value Value → List (Tree × Tree)
entry_trees m = map pair_trees m.entries

-- a map of labels, none of which stands twice (RFC 9052, section 3): its bignums folded it is m
pub record AreLabels (t m : Tree) : Type 0 where
  pub labels : IsTrue (is_label_map t)
  pub folds : folded t ≡ Some m
  pub once : once_each m ≡ gives (entries_of m)

-- the bytes are one item, such a map
pub record AreLabelBytes (bs : List ℕ) (m : Tree) : Type 0 where
  pub tree : Tree
  pub item : IsAllOf bs tree
  pub labels : AreLabels tree m

-- a protected header: no bytes, or those of such a map (RFC 9052, section 3)
abbrev pub IsHeader : List ℕ → Tree → Type 0
IsHeader [] m = m ≡ trees.map trees.no_tree_pairs
IsHeader (b ∷ bs) m = AreLabelBytes (b ∷ bs) m

-- the value at a label that is a number
abbrev pub value_at : ℕ → Tree → Option Tree
value_at n m = tree_under (numbered (pos n)) m

-- ---- headers

-- no label of the one header stands in the other (RFC 9052, section 3)
abbrev pub are_apart : List (Tree × Tree) → List (Tree × Tree) → Bool
are_apart es others = list_all (λ e. not (has_key tree_cmp others e.0)) es

-- the labels that are understood: those of the common parameters (RFC 9052, section 3.1), and 7,
-- the counter signature (RFC 8152, section 3.1)
abbrev pub is_understood : Tree → Bool
is_understood (trees.integer (pos n)) = nat_le 1 n && nat_le n 7
is_understood _ = false

-- each critical label stands in the protected header and is understood (RFC 9052, section 3.1)
abbrev pub are_critical : List (Tree × Tree) → Trees → Bool
are_critical es trees.no_trees = true
are_critical es (trees.tree k ks) = (has_key tree_cmp es k && is_understood k) && are_critical es ks

-- what `crit` is, where it is there: an array of such labels, of one at least (RFC 9052, section
-- 3.1)
abbrev pub is_crit : List (Tree × Tree) → Option Tree → Bool
is_crit es None = true
is_crit es (Some (trees.array (trees.tree k ks))) = are_critical es (trees.tree k ks)
is_crit es (Some _) = false

-- the headers go together: no label stands in both, `crit` is right, and stands in the protected
-- one alone (RFC 9052, sections 3 and 3.1)
pub record AreHeaders (protected unprotected : Tree) : Type 0 where
  pub apart : IsTrue (are_apart (entries_of protected) (entries_of unprotected))
  pub crit : IsTrue (is_crit (entries_of protected) (value_at 2 protected))
  pub crit_protected : value_at 2 unprotected ≡ None

-- ---- claims

-- a claim is missing, or it is of this type
abbrev pub text_claim : Option (String Global) → Option Tree
text_claim c = option_map (λ s. trees.text (string_bytes s)) c

abbrev pub number_claim : Option ℤ → Option Tree
number_claim c = option_map trees.integer c

abbrev pub bytes_claim : Option ByteBuf → Option Tree
bytes_claim c = option_map (λ b. trees.bytes b.0.items) c

-- of this map the claims of a token are those at its keys, and all of them (RFC 8392, section 4)
pub record AreClaims (m : Tree) (claims : Claims) : Type 0 where
  pub issuer : value_at 1 m ≡ text_claim claims.issuer
  pub subject : value_at 2 m ≡ text_claim claims.subject
  pub audience : value_at 3 m ≡ text_claim claims.audience
  pub expires : value_at 4 m ≡ number_claim claims.expires
  pub not_before : value_at 5 m ≡ number_claim claims.not_before
  pub issued : value_at 6 m ≡ number_claim claims.issued
  pub id : value_at 7 m ≡ bytes_claim claims.id
  pub every : tree_of claims.every ≡ m

-- the bytes are one item, a map of these claims
pub record AreClaimBytes (bs : List ℕ) (claims : Claims) : Type 0 where
  pub map : Tree
  pub labels : AreLabelBytes bs map
  pub claims_at : AreClaims map claims

-- ---- messages

-- a signed message: the protected header, the unprotected one, the payload and the signature (RFC
-- 9052, section 4.2)
abbrev pub message_tree : List ℕ → Tree → List ℕ → List ℕ → Tree
message_tree protected unprotected payload signature =
    trees.array (trees.tree (trees.bytes protected) (trees.tree unprotected
    (trees.tree (trees.bytes payload) (trees.tree (trees.bytes signature) trees.no_trees))))

-- the message is this envelope: its parts, and what its headers and its payload hold
pub record IsMessage (t : Tree) (e : Envelope) : Type 0 where
  pub unprotected_tree : Tree
  pub parts : t ≡ message_tree e.protected.0.items unprotected_tree e.payload.0.items e.signature.0.items
  pub unprotected : AreLabels unprotected_tree (tree_of e.unprotected)
  pub header : IsHeader e.protected.0.items (tree_of e.header)
  pub headers : AreHeaders (tree_of e.header) (tree_of e.unprotected)
  pub claims : AreClaimBytes e.payload.0.items e.claims

-- the tags of the other messages (RFC 9052, section 2, table 1)
abbrev pub other_tag : OtherMessage → ℕ
other_tag others.Encrypt0 = 16
other_tag others.Mac0 = 17
other_tag others.Encrypt = 96
other_tag others.Mac = 97
other_tag others.Sign = 98

-- a message under its tags: none, that of a signed message (RFC 9052, section 4.2), or that one
-- under the tag of a token (RFC 8392, section 6)
abbrev pub wrapped_tree : Wrapping → Tree → Tree
wrapped_tree Bare t = t
wrapped_tree Signed t = trees.tag 18 t
wrapped_tree Token t = trees.tag 61 (trees.tag 18 t)

-- the bytes are a message under these tags and no others
pub record IsWrapped (bs : List ℕ) (w : Wrapping) (e : Envelope) : Type 0 where
  pub tree : Tree
  pub item : IsAllOf bs (wrapped_tree w tree)
  pub message : IsMessage tree e

-- the bytes are a message under tag 18
abbrev pub IsEnvelope : List ℕ → Envelope → Type 0
IsEnvelope bs e = IsWrapped bs Signed e

-- ---- what is written and read again

-- a map of labels, none of which stands twice, that is written as it is read
abbrev pub IsKept : Tree → Type 0
IsKept m = AreLabels m m

abbrev pub is_empty : Tree → Bool
is_empty (trees.map trees.no_tree_pairs) = true
is_empty _ = false

-- a protected header as it is written: no bytes where it is empty, else those of its map (RFC 9052,
-- section 3)
abbrev pub header_bytes : Tree → List ℕ
header_bytes m = if is_empty m then [] else encoding m

-- the message that is written of an envelope
abbrev pub message_of : Envelope → Tree
message_of e = message_tree e.protected.0.items (tree_of e.unprotected) e.payload.0.items e.signature.0.items

-- an envelope that is read as it is written: its message is this envelope, and takes no more than
-- 256 levels under its tags
pub record IsWhole (w : Wrapping) (e : Envelope) : Type 0 where
  pub message : IsMessage (message_of e) e
  pub nests : nesting (item_of (wrapped_tree w (message_of e))) ≤ 256

-- the same bytes in each part, and equal headers and claims
pub record AreAlike (e f : Envelope) : Type 0 where
  pub protected : e.protected.0.items ≡ f.protected.0.items
  pub unprotected : tree_of e.unprotected ≡ tree_of f.unprotected
  pub payload : e.payload.0.items ≡ f.payload.0.items
  pub signature : e.signature.0.items ≡ f.signature.0.items
  pub header : tree_of e.header ≡ tree_of f.header
  pub claims : tree_of e.claims.every ≡ tree_of f.claims.every

-- the shortest bytes of an envelope under its tags
abbrev pub shortest_bytes : Wrapping → Envelope → List ℕ
shortest_bytes w e = encoding (wrapped_tree w (message_of e))

-- the bytes are an envelope, and these are the same one under the same tags
pub record IsWrittenAgain (bs again : List ℕ) : Type 0 where
  pub wrapping : Wrapping
  pub envelope : Envelope
  pub read : IsWrapped bs wrapping envelope
  pub same : IsWrapped again wrapping envelope

-- what is spelled of an envelope that is whole is read as that envelope
abbrev pub SpelledIsRead : Type 0
SpelledIsRead = (bs : List ℕ) (w : Wrapping) (e : Envelope) → IsWhole w e →
    Spells bs (item_of (wrapped_tree w (message_of e))) → IsWrapped bs w e

-- no bytes are two envelopes, nor one under two kinds of tags
abbrev pub OneEnvelope : Type 0
OneEnvelope = (bs : List ℕ) (w v : Wrapping) (e f : Envelope) → IsWrapped bs w e →
    IsWrapped bs v f → (w ≡ v) × AreAlike e f

-- ---- what a signature signs

-- the protected header in it: no bytes where the header is empty, however it was sent (RFC 9052,
-- section 4.4)
abbrev pub signed_header : List ℕ → Tree → List ℕ
signed_header bs m = if is_empty m then [] else bs

-- a Sig_structure: the context, the protected header, what the application adds, and the payload
-- (RFC 9052, section
-- 4.4)
abbrev pub signed_item : List ℕ → List ℕ → List ℕ → Item
signed_item protected external payload = item.array false (item.item (item.text false (codes "Signature1"))
    (item.item (item.bytes false protected) (item.item (item.bytes false external)
    (item.item (item.bytes false payload) item.no_items))))

-- ---- what is printed

abbrev pub wrapping_text : Wrapping → List ℕ
wrapping_text Bare = codes "none"
wrapping_text Signed = codes "18"
wrapping_text Token = codes "61 over 18"

abbrev pub other_text : OtherMessage → List ℕ
other_text others.Encrypt0 = codes "COSE_Encrypt0"
other_text others.Mac0 = codes "COSE_Mac0"
other_text others.Encrypt = codes "COSE_Encrypt"
other_text others.Mac = codes "COSE_Mac"
other_text others.Sign = codes "COSE_Sign"

abbrev pub part_text : Part → List ℕ
part_text parts.Message = codes "the message"
part_text parts.Unprotected = codes "the unprotected header"
part_text parts.Header = codes "the protected header"
part_text parts.Claims = codes "the claims"
