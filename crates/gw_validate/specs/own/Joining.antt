-- Trees as a program goes over them: one behind another; and how large a profile is.
use Rattle.gw_validate.specs.Trees.{Tree, leaf, segments, groups, Trees, no_trees, trees}

-- one tree behind another
abbrev pub append_tree : Tree → Tree → Tree
append_tree leaf u = u
append_tree (segments ns t) u = segments ns (append_tree t u)
append_tree (groups ts t) u = groups ts (append_tree t u)

abbrev pub append_trees : Trees → Trees → Trees
append_trees no_trees us = us
append_trees (trees t ts) us = trees t (append_trees ts us)
