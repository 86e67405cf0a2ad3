use Rattle.gw_maplang.proofs.Same.{group_is_same}
use Rattle.gw_maplang.proofs.itself.+same.Goals as goal

pub same_item-returns-in-Group : goal.same_item-returns-in-Group
same_item-returns-in-Group t c =
    group_is_same c.same_group.result c.in-Group.group c.args.node.now c.deref.result.now c.deref-in-Group.result.now c.in-Group.is c.deref.ensures.value c.deref-in-Group.ensures.value c.same_group.ensures
