use Rattle.std.proofs.Common.{length}
use Rattle.checked_trees.proofs.fits.+fits.Given as goal

abbrev pub decreases-fits : goal.decreases-fits
decreases-fits l = length l.pieces.now
