use Rattle.std.proofs.Common.{◌≡◌, sym, ◌∙◌, subst, []}
use Rattle.gw_interp.specs.Meaning.{InFirst, first_text}
use Rattle.gw_interp.specs.own.Sourced.{texts_of}
use Rattle.gw_interp.proofs.ReadTexts.{in_none, in_some}
use Rattle.gw_interp.proofs.FirstTexts.{in_first, absent_in, in_empty}
use Rattle.gw_interp.proofs.reading.first_text.Goals as goal

pub returns-in_default-clause-means : goal.returns-in_default-clause-means
returns-in_default-clause-means c =
    subst (λ s. InFirst (texts_of s) c.args.field c.args.at.comp c.args.at.sub []) (sym c.in_default.is) (in_none c.args.field c.args.at.comp c.args.at.sub)

pub returns-clause-means : goal.returns-clause-means
returns-clause-means c =
    subst (λ s. InFirst (texts_of s) c.args.field c.args.at.comp c.args.at.sub c.text_at.result.now) (sym c.in-Some.is)
    (in_some c.in-Some.segment.at c.args.field c.args.at.comp c.args.at.sub c.in-Some-first_rep.rep c.text_at.result.now c.in-Some-first_rep.ensures c.text_at.ensures)

pub returns-in_default-clause-value : goal.returns-in_default-clause-value
returns-in_default-clause-value c =
    subst (λ s. [] ≡ first_text (texts_of s) c.args.field c.args.at.comp c.args.at.sub) (sym c.in_default.is) (sym (in_empty c.args.field c.args.at.comp c.args.at.sub))

pub returns-clause-value : goal.returns-clause-value
returns-clause-value c =
    subst (λ s. c.text_at.result.now ≡ first_text (texts_of s) c.args.field c.args.at.comp c.args.at.sub) (sym c.in-Some.is)
    (c.text_at.ensures ∙ sym (in_first c.in-Some.segment c.value_count-values.ensures.segment c.args.field c.in-Some-first_rep.rep c.in-Some-first_rep.ensures c.args.at.comp c.args.at.sub))

pub returns-in_default-first_rep-clause-value : goal.returns-in_default-first_rep-clause-value
returns-in_default-first_rep-clause-value c =
    subst (λ s. [] ≡ first_text (texts_of s) c.args.field c.args.at.comp c.args.at.sub) (sym c.in-Some.is)
    (sym (absent_in c.in-Some.segment c.value_count-values.ensures.segment c.args.field c.in_default-first_rep.ensures c.args.at.comp c.args.at.sub))
