-- Equal contents are written alike.
use Rattle.std.{proofs.Common.{ap, ◌∙◌}, specs.{Option.option_map, Prelude.{◌≡◌, List, [], ◌∷◌, map, pos, Option}}}
use Rattle.std.specs.{Prelude.{Some, None, Ok, String, string_bytes, refl}, declared.alloc.Global.Global}
use Rattle.ciborium_value.specs.{Labels.Label, Places.{a_map, an_array}, Sinks.{Named, container_of, in_turn}}
use Rattle.ciborium_value.specs.Sinks.{named_text, number_item, or_null}

-- values with one content name the same item, or are refused with the same kind
abbrev pub IsWrittenByContent : {T C : Type 0} → (T → Named) → (T → C) → Type 0
IsWrittenByContent {T = T} written content = (v w : T) → content v ≡ content w → written v ≡ written w

-- what is named is found from the content alone
pub from_content : {T C : Type 0} (f : C → Named) (content : T → C) → IsWrittenByContent (λ v. f (content v)) content
from_content f content v w same = ap f same

pub unsigned-alike : IsWrittenByContent (λ n. Ok (number_item (pos n))) (λ n. n)
unsigned-alike = from_content (λ n. Ok (number_item (pos n))) (λ n. n)

pub signed-alike : IsWrittenByContent (λ n. Ok (number_item n)) (λ n. n)
signed-alike = from_content (λ n. Ok (number_item n)) (λ n. n)

pub string-alike : IsWrittenByContent {T = String Global} (λ s. named_text (string_bytes s)) string_bytes
string-alike = from_content named_text string_bytes

-- ---- tuples

module _ {A C : Type 0} {a_written : A → Named} {a_content : A → C}
    (a : IsWrittenByContent a_written a_content) where
  pub tuple1-alike : (v w : A) → a_content v ≡ a_content w →
      container_of an_array (a_written v ∷ []) ≡ container_of an_array (a_written w ∷ [])
  tuple1-alike v w same = ap (λ r. container_of an_array (r ∷ [])) (a v w same)

  module _ {B D : Type 0} {b_written : B → Named} {b_content : B → D}
      (b : IsWrittenByContent b_written b_content) where
    pub tuple2-alike : IsWrittenByContent {T = A × B} {C = C × D}
        (λ t. container_of an_array (a_written t.0 ∷ b_written t.1 ∷ [])) (λ t. (a_content t.0, b_content t.1))
    tuple2-alike v w same =
        let first = a v.0 w.0 (ap (λ p. p.0) same) in
        let second = b v.1 w.1 (ap (λ p. p.1) same) in
        ap (λ r. container_of an_array (r ∷ b_written v.1 ∷ [])) first ∙
        ap (λ r. container_of an_array (a_written w.0 ∷ r ∷ [])) second

    module _ {E F : Type 0} {e_written : E → Named} {e_content : E → F}
        (e : IsWrittenByContent e_written e_content) where
      pub tuple3-alike : IsWrittenByContent {T = A × B × E} {C = C × D × F}
          (λ t. container_of an_array (a_written t.0 ∷ b_written t.1 ∷ e_written t.2 ∷ []))
          (λ t. (a_content t.0, b_content t.1, e_content t.2))
      tuple3-alike v w same =
          let first = a v.0 w.0 (ap (λ p. p.0) same) in
          let second = b v.1 w.1 (ap (λ p. p.1) same) in
          let third = e v.2 w.2 (ap (λ p. p.2) same) in
          ap (λ r. container_of an_array (r ∷ b_written v.1 ∷ e_written v.2 ∷ [])) first
          ∙ ap (λ r. container_of an_array (a_written w.0 ∷ r ∷ e_written v.2 ∷ [])) second
          ∙ ap (λ r. container_of an_array (a_written w.0 ∷ b_written w.1 ∷ r ∷ [])) third

      module _ {G H : Type 0} {g_written : G → Named} {g_content : G → H}
          (g : IsWrittenByContent g_written g_content) where
        pub tuple4-alike : IsWrittenByContent {T = A × B × E × G} {C = C × D × F × H}
            (λ t. container_of an_array (a_written t.0 ∷ b_written t.1 ∷ e_written t.2 ∷ g_written
            t.3 ∷ [])) (λ t. (a_content t.0, b_content t.1, e_content t.2, g_content t.3))
        tuple4-alike v w same =
            let first = a v.0 w.0 (ap (λ p. p.0) same) in
            let second = b v.1 w.1 (ap (λ p. p.1) same) in
            let third = e v.2 w.2 (ap (λ p. p.2) same) in
            let fourth = g v.3 w.3 (ap (λ p. p.3) same) in
            ap (λ r. container_of an_array (r ∷ b_written v.1 ∷ e_written v.2 ∷ g_written v.3 ∷ []))
            first
            ∙ ap (λ r. container_of an_array (a_written w.0 ∷ r ∷ e_written v.2 ∷ g_written v.3 ∷
            [])) second
            ∙ ap (λ r. container_of an_array (a_written w.0 ∷ b_written w.1 ∷ r ∷ g_written v.3 ∷
            [])) third
            ∙ ap (λ r. container_of an_array (a_written w.0 ∷ b_written w.1 ∷ e_written w.2 ∷ r ∷
            [])) fourth

-- ---- lists and options

module _ {T C : Type 0} {written : T → Named} {content : T → C}
    (alike : IsWrittenByContent written content) where
  each-alike : (xs ys : List T) → map content xs ≡ map content ys → map written xs ≡ map written ys
  each-alike [] [] same = refl
  each-alike [] (y ∷ ys) same = cc
  each-alike (x ∷ xs) [] same = cc
  each-alike (x ∷ xs) (y ∷ ys) same =
      let first : content x ≡ content y = cc in
      let rest : map content xs ≡ map content ys = cc in
      ap (λ r. r ∷ map written xs) (alike x y first) ∙
      ap (λ rs. written y ∷ rs) (each-alike xs ys rest)

  pub list-alike : (xs ys : List T) → map content xs ≡ map content ys →
      container_of an_array (map written xs) ≡ container_of an_array (map written ys)
  list-alike xs ys same = ap (container_of an_array) (each-alike xs ys same)

  pub option-alike : (o p : Option T) → option_map content o ≡ option_map content p →
      or_null written o ≡ or_null written p
  option-alike None None same = refl
  option-alike None (Some w) same = cc
  option-alike (Some v) None same = cc
  option-alike (Some v) (Some w) same = let inner : content v ≡ content w = cc in alike v w inner

-- ---- maps

-- what counts of an entry, and of all of them
abbrev content_of : {K V C D : Type 0} → (K → C) → (V → D) → K × V → C × D
content_of key value e = (key e.0, value e.1)

-- what counts of the entries
abbrev pub contents : {K V C D : Type 0} → (K → C) → (V → D) → List (K × V) → List (C × D)
contents key value es = map (content_of key value) es

module _ {K C : Type 0} {key_written : K → Named} {key : K → C}
    (key_alike : IsWrittenByContent key_written key) where
  module _ {V D : Type 0} {value_written : V → Named} {value : V → D}
      (value_alike : IsWrittenByContent value_written value) where
    entries-alike : (es fs : List (K × V)) → contents key value es ≡ contents key value fs →
        in_turn key_written value_written es ≡ in_turn key_written value_written fs
    entries-alike [] [] same = refl
    entries-alike [] (f ∷ fs) same = cc
    entries-alike (e ∷ es) [] same = cc
    entries-alike (e ∷ es) (f ∷ fs) same =
        let first : content_of key value e ≡ content_of key value f = cc in
        let rest : contents key value es ≡ contents key value fs = cc in
        ap (λ r. r ∷ value_written e.1 ∷ in_turn key_written value_written es)
        (key_alike e.0 f.0 (ap (λ p. p.0) first))
        ∙ ap (λ r. key_written f.0 ∷ r ∷ in_turn key_written value_written es)
        (value_alike e.1 f.1 (ap (λ p. p.1) first))
        ∙ ap (λ rs. key_written f.0 ∷ value_written f.1 ∷ rs) (entries-alike es fs rest)

    pub map-alike : (es fs : List (K × V)) → contents key value es ≡ contents key value fs →
        container_of a_map (in_turn key_written value_written es) ≡ container_of a_map
        (in_turn key_written value_written fs)
    map-alike es fs same = ap (container_of a_map) (entries-alike es fs same)

-- ---- structs by names

-- fields with equal contents name the same
pub record AreFieldsAlike {C : Type 0} (c d : C) (fs gs : List (Label × Named)) : Type 0 where
  pub alike : c ≡ d → fs ≡ gs

pub no_field_alike : AreFieldsAlike {C = Unit {0}} tt tt [] []
no_field_alike = record { alike = λ same. refl }

abbrev named_field : Label → Named → Label × Named
named_field name r = (name, r)

module _ {A C : Type 0} (name : Label) {a b : A} {r s : Named} {c d : C}
    {fs gs : List (Label × Named)} where
  pub field_alike : (a ≡ b → r ≡ s) → AreFieldsAlike c d fs gs →
      AreFieldsAlike {C = A × C} (a, c) (b, d) ((name, r) ∷ fs) ((name, s) ∷ gs)
  field_alike first behind = record {
    alike = λ same. ap (λ t. named_field name t ∷ fs) (first (ap (λ p. p.0) same)) ∙
        ap (λ ts. named_field name s ∷ ts) (behind.alike (ap (λ p. p.1) same));
  }
