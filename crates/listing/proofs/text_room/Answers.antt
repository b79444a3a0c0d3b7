-- An array of one number is as long as it says.
use Rattle.listing.proofs.Places.{zeros_long}
use Rattle.listing.proofs.text_room.Goals as goal

pub returns : goal.returns
returns c = zeros_long 819200
