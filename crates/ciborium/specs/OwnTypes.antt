-- The words with which an own type is described.
pub use Rattle.std.proofs.Common.{inl, inr}
pub use Rattle.std.specs.Prelude.{pos, negsuc, codes, refl}
pub use Rattle.ciborium_value.specs.Labels.{label, numbered}
pub use Rattle.ciborium_value.specs.lemmas.Descriptions.{described, ordered_as, tested, written_as}
pub use Rattle.ciborium_value.specs.lemmas.Descriptions.{struct_description, then_field}
pub use Rattle.ciborium_value.specs.lemmas.Descriptions.{then_field_or, then_optional_field}
pub use Rattle.ciborium_value.specs.lemmas.Descriptions.{then_no_field, then_no_field_twice}
pub use Rattle.ciborium_value.specs.lemmas.Descriptions.{then_no_other_field}
pub use Rattle.ciborium_value.specs.lemmas.ItemDescriptions.{array_description, then_item}
pub use Rattle.ciborium_value.specs.lemmas.ItemDescriptions.{then_no_item}
pub use Rattle.ciborium_value.specs.lemmas.VariantDescriptions.{enum_description, no_variant}
pub use Rattle.ciborium_value.specs.lemmas.VariantDescriptions.{then_unit_variant, then_variant}
pub use Rattle.ciborium.specs.lemmas.TagDescriptions.{under_tag, under_tag_or_none}
