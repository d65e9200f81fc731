-- Equal contents are written as equal bytes, and what was read back is written again.
use Rattle.std.proofs.Common.{◌≡◌, ℕ, List, [], ◌++◌, Some, Ok, refl, sym, ap, ◌∙◌}
use Rattle.std.specs.declared.io.Error.{Error as IoError}
use Rattle.ciborium_ll.proofs.UniqueSpelling.{one_at_front}
use Rattle.ciborium_value.{proofs.Writing.ReadBack.written_spells_item, specs.{Encoding.written_bytes, Given.gives}}
use Rattle.ciborium_value.specs.{Given.outcome, Readings.Reading, ReadsBack.{IsPlainlyReadBack, by_bytes}, Sinks.Named}
use Rattle.ciborium_value.specs.WrittenContents.{IsWrittenByContent}
use Rattle.ciborium.{proofs.ReadBack.RoundTrips.{one-content, tree_gives_content}, specs.Writes.WritesNamed}
use Rattle.ciborium.specs.{declared.ser.error.Error.Error as WriteError, laws.RoundTrips.AreRefusedAlike}
use Rattle.ciborium.specs.laws.RoundTrips.{BytesWrittenAgain, LeaveSameBytes, TreeWrittenAgain, WriteSameBytes}

-- written into nothing, what names the same leaves the same
same-left : (m n : Named) (old new before after : List ℕ) → m ≡ n →
    WritesNamed {E = WriteError IoError} (Some old) (Some new) (Ok tt) m →
    WritesNamed {E = WriteError IoError} (Some before) (Some after) (Ok tt) n → old ≡ [] → before ≡ [] → new ≡ after
same-left (Ok i) (Ok j) old new before after same first second none neither =
    let one : i ≡ j = cc in
    first ∙ ap (λ (bytes : List ℕ). bytes ++ written_bytes i) (none ∙ sym neither) ∙
    ap (λ k. before ++ written_bytes k) one ∙ sym second
same-left u v old new before after same first second w neither = cc

module _ {T C : Type 0} (written : T → Named) (content : T → C) (alike : IsWrittenByContent written content) where
  pub write_same_bytes : WriteSameBytes written content
  write_same_bytes v w i j same first second =
      let names = alike v w same in
      let one : i ≡ j = cc in
      ap written_bytes one

  pub are_refused_alike : AreRefusedAlike written content
  are_refused_alike v w k same refused = sym (alike v w same) ∙ refused

  pub leave_same_bytes : LeaveSameBytes written content
  leave_same_bytes v w old new before after same first second none neither =
      same-left (written v) (written w) old new before after (alike v w same) first second none neither

module _ {T C : Type 0} (IsValid : T → Type 0) (written : T → Named) (reading : Reading T C) (levels : T → ℕ)
    (law : IsPlainlyReadBack IsValid written reading.taken reading.content levels)
    (alike : IsWrittenByContent written reading.content) where
  pub bytes_written_again : BytesWrittenAgain IsValid written reading levels
  bytes_written_again v w i l rest after valid names fits within (j, s, left, sp, e, give, is) =
      let one = one_at_front (written_bytes i) s rest left i j (written_spells_item i fits) sp e in
      let given : outcome (Some l) (reading.taken i) ≡ gives (reading.content v) =
      (law by_bytes tt v valid).back i names i refl (Some l) within in
      let taken : outcome (Some l) (reading.taken i) ≡ gives (reading.content w) =
      ap (λ j. outcome (Some l) (reading.taken j)) one.2 ∙ give in
      alike w v (one-content (outcome (Some l) (reading.taken i)) (reading.content v) (reading.content w) given taken) ∙
      names

  pub tree_written_again : TreeWrittenAgain IsValid written reading
  tree_written_again v w made valid is give = alike w v
      (tree_gives_content IsValid written reading levels law v made (reading.content w) valid is give)
