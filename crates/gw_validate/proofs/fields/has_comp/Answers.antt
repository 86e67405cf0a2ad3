use Rattle.std.proofs.Common.{arith}
use Rattle.gw_validate.proofs.Nexts.{comp_within, comp_here, comp_is}
use Rattle.gw_validate.proofs.fields.has_comp.Goals as goal

pub returns-in-None-clause-no : goal.returns-in-None-clause-no
returns-in-None-clause-no c = λ no there.
    let past = rw c.in-None.is at c.requires.value in
    let within = comp_within c.args.segment.now c.args.field c.args.rep c.args.comp c.args.at c.value_count-count.ensures.segment c.requires.start there in
    omega (arith, within, past)

pub returns-in-Some-clause-yes : goal.returns-in-Some-clause-yes
returns-in-Some-clause-yes c = λ yes.
    let v = c.in-Some.value in
    let here = rw c.in-Some.is at c.requires.value in
    let is = c.is_of.ensures.yes yes in
    comp_here c.args.segment.now c.args.field c.args.rep c.args.comp c.args.at c.value_count-count.ensures.segment c.requires.start v.place.field v.place.rep v.place.comp v.place.sub v.text.now here.is is.0 is.1 is.2

pub returns-in-Some-clause-no : goal.returns-in-Some-clause-no
returns-in-Some-clause-no c = λ no there.
    let v = c.in-Some.value in
    let here = rw c.in-Some.is at c.requires.value in
    c.is_of.ensures.no no (comp_is c.args.segment.now c.args.field c.args.rep c.args.comp c.args.at c.value_count-count.ensures.segment c.requires.start v.place.field v.place.rep v.place.comp v.place.sub v.text.now here.is there)
