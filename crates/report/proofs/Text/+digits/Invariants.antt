-- `report::Text::digits`, which calls itself: the places fall. Assumes nothing.
use Rattle.report.proofs.Text.+digits.Given as goal

abbrev pub decreases-digits : goal.decreases-digits
decreases-digits l = l.places
