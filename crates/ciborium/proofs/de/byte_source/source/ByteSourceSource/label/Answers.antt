use Rattle.std.{proofs.Common.{◌≡◌, ap, false, subst, sym, true}, specs.Int.complement_if}
use Rattle.ciborium_ll.specs.{Header.SpellsHeader, Item.{negative, unsigned}}
use Rattle.ciborium_value.specs.{Given.gives, Labels.{numbered}}
use Rattle.ciborium.proofs.{Containers.Labels.{no-key}, Exits.passed_on}
use Rattle.ciborium.proofs.de.byte_source.source.ByteSourceSource.label.{Given.Over, Goals.In_ok-header}
use Rattle.ciborium.proofs.Containers.Labels.{HasHead, text-key-answered, told-key, whole-key}
use Rattle.ciborium.proofs.de.byte_source.source.ByteSourceSource.label.Goals as goal

-- the head of the key was taken
head : (g : Over) (c : In_ok-header g) → HasHead g.A.Access.remaining c.args.self.now c.next_head.new.self
    c.in_ok-header.header c.in_ok-header.offset
head g c = let e = c.in_ok-header.ensures in record {
  kept = e.keeps;
  fewer = e.fewer;
  head = e.head;
  counted = e.counted;
}

pub returns-in_err-header : goal.returns-in_err-header
returns-in_err-header g c =
    let head = c.in_err-header.ensures in
    rw (passed_on c.from_residual.result _ c.from_residual.ensures.1) (record {
      takes = no-key _ g.A.Access.remaining (g.N.Labels.place_of c.args.labels.now) _ head.keeps.only head.keeps.no_more
          head.denied;
    })

pub returns-in-Text : goal.returns-in-Text
returns-in-Text g c = let text = c.text_place.ensures in record {
  takes = text-key-answered _ (head g (goal.at.returns-in-Text g c).In_ok-header)
      (g.N.Labels.place_of c.args.labels.now) c.in-Text.len c.in-Text.is c.text_place.result text.keeps text.ok
      text.denied;
}

pub returns-in-Positive : goal.returns-in-Positive
returns-in-Positive g c =
    let place = g.N.Labels.place_of c.args.labels.now in record {
      takes = whole-key _ (head g (goal.at.returns-in-Positive g c).In_ok-header) place (unsigned c.in-Positive.n)
          (λ x hd. subst (SpellsHeader x) c.in-Positive.is hd)
          (ap gives (sym (subst (λ m. c.find_number.result ≡ place (numbered (complement_if false m))) c.from.ensures
          c.find_number.ensures)));
    }

pub returns-in-Negative : goal.returns-in-Negative
returns-in-Negative g c =
    let place = g.N.Labels.place_of c.args.labels.now in record {
      takes = whole-key _ (head g (goal.at.returns-in-Negative g c).In_ok-header) place (negative c.in-Negative.n)
          (λ x hd. subst (SpellsHeader x) c.in-Negative.is hd)
          (ap gives (sym (subst (λ m. c.find_number-in-Negative.result ≡ place (numbered (complement_if true m)))
          c.from-in-Negative.ensures c.find_number-in-Negative.ensures)));
    }

pub returns-in_default : goal.returns-in_default
returns-in_default g c = record {
  takes = told-key _ (head g (goal.at.returns-in_default g c).In_ok-header)
      (g.N.Labels.place_of c.args.labels.now) c.place_of_type.result c.place_of_type.ensures.keeps _
      c.label_type.ensures c.place_of_type.ensures.answer;
}
