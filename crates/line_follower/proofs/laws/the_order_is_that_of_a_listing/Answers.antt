use Rattle.line_follower.proofs.Orders.{before_in_listing, listed_before}
use Rattle.line_follower.proofs.laws.the_order_is_that_of_a_listing.Goals as goal

pub returns : goal.returns
returns c = λ a b. (before_in_listing a b, listed_before a b)
