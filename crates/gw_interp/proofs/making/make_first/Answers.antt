use Rattle.std.proofs.Common.{sym, ap, ◌∙◌}
use Rattle.gw_maplang.specs.Seen.{condition_some}
use Rattle.gw_resolve.specs.Seen.{reference}
use Rattle.gw_interp.specs.own.Sourced.{texts_of}
use Rattle.gw_interp.specs.own.Filling.{message_of}
use Rattle.gw_interp.specs.own.Making.{seen_from}
use Rattle.gw_interp.proofs.Fills.{on_ok}
use Rattle.gw_interp.proofs.Ruled.{first_nothing, first_none, may_first, first_copied}
use Rattle.gw_interp.proofs.making.make_first.Goals as goal

pub returns-in_default : goal.returns-in_default
returns-in_default c =
    first_nothing (seen_from c.args.scope.now) (reference c.args.from.now) c.args.field
    (ap texts_of (sym c.in_default.is) ∙ c.segment_at.ensures (message_of c.args.scope.now) c.requires.of) (condition_some c.args.condition.now) c.args.builder.now c.requires.may

pub returns-in_default-first_chosen : goal.returns-in_default-first_chosen
returns-in_default-first_chosen c =
    first_none (seen_from c.args.scope.now) (reference c.args.from.now) c.args.field c.in-Some.segment.at
    (ap texts_of (sym c.in-Some.is) ∙ c.segment_at.ensures (message_of c.args.scope.now) c.requires.of) (condition_some c.args.condition.now)
    c.args.builder.now c.in_default-first_chosen.ensures c.requires.may

pub copy_rep-requires : goal.copy_rep-requires
copy_rep-requires c =
    may_first (seen_from c.args.scope.now) (reference c.args.from.now) c.args.field c.in-Some.segment.at
    (ap texts_of (sym c.in-Some.is) ∙ c.segment_at.ensures (message_of c.args.scope.now) c.requires.of) (condition_some c.args.condition.now)
    c.in-Some-first_chosen.rep c.in-Some-first_chosen.ensures c.args.builder.now c.requires.may

pub returns : goal.returns
returns c =
    on_ok _ _ c.copy_rep.result
    (first_copied (seen_from c.args.scope.now) (reference c.args.from.now) c.args.field c.in-Some.segment.at
    (ap texts_of (sym c.in-Some.is) ∙ c.segment_at.ensures (message_of c.args.scope.now) c.requires.of) (condition_some c.args.condition.now)
    c.in-Some-first_chosen.rep c.in-Some-first_chosen.ensures c.args.builder.now c.copy_rep.new.builder c.requires.may)
    c.copy_rep.ensures
