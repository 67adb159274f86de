use Rattle.std.proofs.Common.{◌≡◌, Some, None, refl, sym, ◌∙◌, lit<, arith}
use Rattle.std.proofs.lemmas.Bool.{eqb-true, eqb-false, false≢true}
use Rattle.ox_name.specs.Name.{number_with}
use Rattle.ox_name.proofs.NamesReadBack.{named-none, named-first, reads_on, reads_over, reads_none, reads_all, below_from_some, above_from_none, place_small, bits_fit}
use Rattle.ox_name.proofs.reading.read_name.Goals as goal

pub returns-in_default-clause-none : goal.returns-in_default-clause-none
returns-in_default-clause-none c = (λ t. named-none c.args.text.now c.in_default.ensures, λ e. refl)

pub loop-rest-init : goal.loop-rest-init
loop-rest-init c = record {
  is = named-first c.args.text.now c.in-Some.rest.now c.in-Some.first c.in-Some.ensures.0 c.in-Some.ensures.1;
  letters = omega arith;
  bits = lit< tt;
  small = omega (arith, c.in-Some.ensures.0.1);
}

pub returns-in_default-letter_at-clause-none : goal.returns-in_default-letter_at-clause-none
returns-in_default-letter_at-clause-none c = (
  λ t. reads_none c.args.text.now c.loop-rest.rest.now c.spacer_at-spaced.result.1.now c.loop-rest.name c.loop-rest.spacers c.loop-rest.place c.spacer_at-spaced.result.0 c.loop-rest.invariant (omega (arith, eqb-false _ _ (sym c.loop-rest-test.ensures))) c.spacer_at-spaced.ensures.spacer c.spacer_at-spaced.ensures.none c.in_default-letter_at.ensures,
  λ e. refl,
)

pub returns-in_default-with_letter-clause-none : goal.returns-in_default-with_letter-clause-none
returns-in_default-with_letter-clause-none c = (
  λ t. reads_over c.args.text.now c.loop-rest.rest.now c.spacer_at-spaced.result.1.now c.in-Some-letter_at.behind.now c.loop-rest.name c.loop-rest.spacers c.loop-rest.place c.in-Some-letter_at.letter c.spacer_at-spaced.result.0 c.loop-rest.invariant c.spacer_at-spaced.ensures.spacer (λ f. (c.spacer_at-spaced.ensures.none f).0) c.in-Some-letter_at.ensures.0 c.in-Some-letter_at.ensures.1 (above_from_none (number_with c.loop-rest.name c.in-Some-letter_at.letter) c.in_default-with_letter.ensures),
  λ e. refl,
)

pub gap_bit-spacers-requires : goal.gap_bit-spacers-requires
gap_bit-spacers-requires c = omega (arith, place_small c.loop-rest.place c.loop-rest.name c.loop-rest.invariant.letters c.loop-rest.invariant.small)

pub overflow_add-spacers : goal.overflow_add-spacers
overflow_add-spacers c =
    let small = place_small c.loop-rest.place c.loop-rest.name c.loop-rest.invariant.letters c.loop-rest.invariant.small in
    rw c.gap_bit-spacers.ensures (omega (arith, bits_fit c.loop-rest.spacers c.loop-rest.place c.spacer_at-spaced.result.0 small c.loop-rest.invariant.bits))

pub overflow_add-place : goal.overflow_add-place
overflow_add-place c = omega (arith, place_small c.loop-rest.place c.loop-rest.name c.loop-rest.invariant.letters c.loop-rest.invariant.small)

pub loop-rest-preserved : goal.loop-rest-preserved
loop-rest-preserved c =
    let next = below_from_some (number_with c.loop-rest.name c.in-Some-letter_at.letter) c.in-Some-with_letter.longer c.in-Some-with_letter.ensures in
    rw (c.gap_bit-spacers.ensures, next.0)
    (reads_on c.args.text.now c.loop-rest.rest.now c.spacer_at-spaced.result.1.now c.in-Some-letter_at.behind.now c.loop-rest.name c.loop-rest.spacers c.loop-rest.place c.in-Some-letter_at.letter c.spacer_at-spaced.result.0 c.loop-rest.invariant c.spacer_at-spaced.ensures.spacer (λ f. (c.spacer_at-spaced.ensures.none f).0) c.in-Some-letter_at.ensures.0 c.in-Some-letter_at.ensures.1 next.1)

pub returns-clause-found : goal.returns-clause-found
returns-clause-found c = reads_all c.args.text.now c.loop-rest.rest.now c.loop-rest.name c.loop-rest.spacers c.loop-rest.place c.loop-rest.invariant (eqb-true _ _ (sym c.loop-rest-test.ensures))

pub returns-clause-none : goal.returns-clause-none
returns-clause-none c =
    let found = reads_all c.args.text.now c.loop-rest.rest.now c.loop-rest.name c.loop-rest.spacers c.loop-rest.place c.loop-rest.invariant (eqb-true _ _ (sym c.loop-rest-test.ensures)) in
    (λ t. absurd (false≢true t), λ e. let f : Some _ ≡ None = sym found ∙ e in absurd cc)
