use Rattle.std.proofs.Common.{sym, ◌∙◌, length}
use Rattle.gw_er7.specs.Message.{numbers}
use Rattle.gw_interp.proofs.Fills.{may_put, put_is, nothing_put, on_ok, none_long, some_long}
use Rattle.gw_interp.proofs.putting.put_text.Goals as goal

pub returns-then-is_empty-clause-ok : goal.returns-then-is_empty-clause-ok
returns-then-is_empty-clause-ok c = nothing_put (numbers c.args.place) c.args.text.now c.args.builder.now c.requires (none_long (length c.args.text.now) (sym c.is_empty.ensures ∙ c.if-is_empty.true))

pub put-requires : goal.put-requires
put-requires c = may_put (numbers c.args.place) c.args.text.now c.args.builder.now (some_long (length c.args.text.now) (sym c.is_empty.ensures ∙ c.if-is_empty.false)) c.requires

pub returns-clause-ok : goal.returns-clause-ok
returns-clause-ok c = on_ok _ _ c.put.result (put_is (numbers c.args.place) c.args.text.now c.args.builder.now c.put.new.self (some_long (length c.args.text.now) (sym c.is_empty.ensures ∙ c.if-is_empty.false)) c.requires) c.put.ensures.ok
