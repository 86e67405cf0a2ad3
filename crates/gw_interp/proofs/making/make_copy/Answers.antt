use Rattle.std.proofs.Common.{sym, ap, ◌∙◌}
use Rattle.gw_resolve.specs.Seen.{reference}
use Rattle.gw_interp.specs.own.Sourced.{texts_of}
use Rattle.gw_interp.specs.own.Filling.{message_of}
use Rattle.gw_interp.specs.own.Making.{seen_from}
use Rattle.gw_interp.proofs.Fills.{on_ok}
use Rattle.gw_interp.proofs.Ruled.{copy_nothing, may_copy, copied}
use Rattle.gw_interp.proofs.making.make_copy.Goals as goal

pub returns-in_default : goal.returns-in_default
returns-in_default c =
    copy_nothing (seen_from c.args.scope.now) (reference c.args.from.now) c.args.field
    (ap texts_of (sym c.in_default.is) ∙ c.segment_at.ensures (message_of c.args.scope.now) c.requires.of) c.args.builder.now c.requires.may

pub copy_reps-requires : goal.copy_reps-requires
copy_reps-requires c =
    may_copy (seen_from c.args.scope.now) (reference c.args.from.now) c.args.field c.in-Some.segment.at
    (ap texts_of (sym c.in-Some.is) ∙ c.segment_at.ensures (message_of c.args.scope.now) c.requires.of) c.args.builder.now c.requires.may

pub returns : goal.returns
returns c =
    on_ok _ _ c.copy_reps.result
    (copied (seen_from c.args.scope.now) (reference c.args.from.now) c.args.field c.in-Some.segment.at
    (ap texts_of (sym c.in-Some.is) ∙ c.segment_at.ensures (message_of c.args.scope.now) c.requires.of) c.args.builder.now c.copy_reps.new.builder)
    c.copy_reps.ensures
