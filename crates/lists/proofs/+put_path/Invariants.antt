-- `lists::put_path`: the steps fall.
use Rattle.lists.proofs.+put_path.Given as goal

abbrev pub decreases-put_path : goal.decreases-put_path
decreases-put_path l = l.left
