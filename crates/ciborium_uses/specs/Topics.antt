-- Topics, which are written as their names, and are read back.
use Rattle.std.specs.Prelude.{List, [], ◌∷◌, Ok, codes, false, refl}
use Rattle.ciborium.specs.{Item.{Item, text}, ReadsBack.{IsReadBack, Way}, VariantReadings.{Variant, given_enum}}
use Rattle.ciborium.specs.{VariantReadings.unit_variant, lemmas.ReadsBackVariants.unit_variant_back}
use Rattle.ciborium_uses.specs.declared.settings.topic.Topic.{Topic, TheVariants.{Network, Screen, Sound}}

-- the item of a topic
abbrev pub topic_item : Topic → Item
topic_item Network = text false (codes "network")
topic_item Screen = text false (codes "screen")
topic_item Sound = text false (codes "sound")

-- the topics by their names, as they are read
abbrev pub topics : List (Variant Topic)
topics = unit_variant (codes "network") Network ∷ unit_variant (codes "screen") Screen ∷
    unit_variant (codes "sound") Sound ∷ []

-- a topic that was written is read back
pub topic_back : (way : Way) → IsReadBack way (λ topic. Unit {0}) (λ topic. Ok (topic_item topic)) (given_enum topics)
    (λ topic. topic) (λ topic. 1)
topic_back way Network valid = unit_variant_back topics (codes "network") (λ l. refl)
topic_back way Screen valid = unit_variant_back topics (codes "screen") (λ l. refl)
topic_back way Sound valid = unit_variant_back topics (codes "sound") (λ l. refl)
