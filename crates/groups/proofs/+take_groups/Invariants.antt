use Rattle.groups.proofs.+take_groups.Given as goal

abbrev pub decreases-take_groups : goal.decreases-take_groups
decreases-take_groups l = l.left
