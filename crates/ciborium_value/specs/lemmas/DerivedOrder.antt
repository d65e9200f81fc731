-- The derived order of `Value` is that of the trees: a lemma, since a ghost line of `Key` names it.
use Rattle.std.proofs.Common.{◌≡◌, List, [], ◌∷◌, rules, refl, ◌∙◌, subst, Equal, Ordering, map}
use Rattle.std.specs.{Cmp.Lexicographic.slice_cmp, Ordering.ordering_then}
use Rattle.ciborium_value.specs.{Derived.value_cmp, Order.{tree_cmp, trees_cmp, tree_pairs_cmp}, ValueLists.trees_of}
use Rattle.ciborium_value.specs.{ValueLists.tree_pairs_of, View.tree_of, contracts.tree.ValueOrd.TheImpl.the_step}
use Rattle.ciborium_value.specs.{contracts.tree.ValueOrd.TheImpl.Laws.{local, unfolded}, declared.tree.Value.Value}
use Rattle.ciborium_value.specs.declared.tree.Value.{the_lemmas, TheBlock.{the_members, the_depth, the_family}}
use Rattle.ciborium_value.specs.declared.tree.Value.{TheBlock.member-Value, TheFolds.{map-Value, ind-Value}}
use Rattle.ciborium_value.specs.declared.tree.Value.{TheOpen.Value-F, TheViews.{out-Value, roll-Value}}
use denote.Hole.Compared.{compared_is}

cmp_unfolded : (v w : Value) → value_cmp v w ≡ unfolded v w
cmp_unfolded = compared_is the_members the_family the_depth Ordering Equal the_step local member-Value

-- against every other value the answer is that of the trees
abbrev IsOfTrees : Value → Type 0
IsOfTrees v = (w : Value) → value_cmp v w ≡ tree_cmp (tree_of v) (tree_of w)

-- a value inside, of which this is known
abbrev Known : Type 0
Known = (v : Value) × IsOfTrees v

values_agree : (es : List Known) (ws : List Value) →
    slice_cmp value_cmp (map (λ e. e.0) es) ws ≡ trees_cmp (trees_of (map (λ e. e.0) es)) (trees_of ws)
values_agree [] [] = refl
values_agree [] (w ∷ ws) = refl
values_agree (e ∷ es) [] = refl
values_agree (e ∷ es) (w ∷ ws) = rw (e.1, values_agree es ws)

abbrev pair_cmp : Value × Value → Value × Value → Ordering
pair_cmp p q = ordering_then (value_cmp p.0 q.0) (value_cmp p.1 q.1)

abbrev pair_of : Known × Known → Value × Value
pair_of e = (e.0.0, e.1.0)

pairs_agree : (es : List (Known × Known)) (ws : List (Value × Value)) →
    slice_cmp pair_cmp (map pair_of es) ws ≡ tree_pairs_cmp (tree_pairs_of (map pair_of es)) (tree_pairs_of ws)
pairs_agree [] [] = refl
pairs_agree [] (w ∷ ws) = refl
pairs_agree (e ∷ es) [] = refl
pairs_agree (e ∷ es) (w ∷ ws) = rw (e.0.1, e.1.1, pairs_agree es ws)

abbrev bare : Value-F Known → Value-F Value
bare y = map-Value Known Value (λ e. e.0) y

abbrev IsAgreed : Value-F Known → Value-F Value → Type 0
IsAgreed y z =
    value_cmp (roll-Value (bare y)) (roll-Value z) ≡ tree_cmp (tree_of (roll-Value (bare y))) (tree_of (roll-Value z))

integer_agrees : (n : _) (z : Value-F Value) → IsAgreed (Value-F.Integer n) z
integer_agrees n z = cmp_unfolded _ _ ∙ search (rules, the_lemmas)

bytes_agrees : (b : _) (z : Value-F Value) → IsAgreed (Value-F.Bytes b) z
bytes_agrees b z = cmp_unfolded _ _ ∙ search (rules, the_lemmas)

text_agrees : (s : _) (z : Value-F Value) → IsAgreed (Value-F.Text s) z
text_agrees s z = cmp_unfolded _ _ ∙ search (rules, the_lemmas)

bool_agrees : (b : _) (z : Value-F Value) → IsAgreed (Value-F.Bool b) z
bool_agrees b z = cmp_unfolded _ _ ∙ search (rules, the_lemmas)

null_agrees : (z : Value-F Value) → IsAgreed Value-F.Null z
null_agrees z = cmp_unfolded _ _ ∙ search (rules, the_lemmas)

tag_agrees : (t v : _) (z : Value-F Value) → IsAgreed (Value-F.Tag t v) z
tag_agrees t v z = let e = v.value.1 in cmp_unfolded _ _ ∙ search (rules, the_lemmas, e)

array_agrees : (vs : _) (z : Value-F Value) → IsAgreed (Value-F.Array vs) z
array_agrees vs (Value-F.Array ws) = let e = values_agree vs.items ws.items in
    cmp_unfolded _ _ ∙ search (rules, the_lemmas, e)
array_agrees _ _ = cmp_unfolded _ _ ∙ search (rules, the_lemmas)

map_agrees : (vs : _) (z : Value-F Value) → IsAgreed (Value-F.Map vs) z
map_agrees vs (Value-F.Map ws) = let e = pairs_agree vs.items ws.items in
    cmp_unfolded _ _ ∙ search (rules, the_lemmas, e)
map_agrees _ _ = cmp_unfolded _ _ ∙ search (rules, the_lemmas)

-- a lemma for each variant: in one declaration, of all pairs, these take twice as long
level_agrees : (y : Value-F Known) (z : Value-F Value) → IsAgreed y z
level_agrees (Value-F.Integer n) z = integer_agrees n z
level_agrees (Value-F.Bytes b) z = bytes_agrees b z
level_agrees (Value-F.Text s) z = text_agrees s z
level_agrees (Value-F.Bool b) z = bool_agrees b z
level_agrees Value-F.Null z = null_agrees z
level_agrees (Value-F.Tag t v) z = tag_agrees t v z
level_agrees (Value-F.Array vs) z = array_agrees vs z
level_agrees (Value-F.Map vs) z = map_agrees vs z

pub value_cmp-is : (v w : Value) → value_cmp v w ≡ tree_cmp (tree_of v) (tree_of w)
value_cmp-is = ind-Value IsOfTrees (λ x y is w.
    let Agrees : Value-F Value → Value → Type 0 =
    λ t u. value_cmp (roll-Value t) u ≡ tree_cmp (tree_of (roll-Value t)) (tree_of u) in
    subst (Agrees x) (search (rules, the_lemmas))
    (subst (λ t. Agrees t (roll-Value (out-Value w))) is (level_agrees y (out-Value w))))
