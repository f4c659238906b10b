use Rattle.app_select.proofs.Order.{priority_rank-least, priority_rank-most, in_priority_order-rising, in_priority_order-stable}
use Rattle.app_select.proofs.laws.order_is_stable.Goals as goal

pub returns-clause-least : goal.returns-clause-least
returns-clause-least c priority = priority_rank-least priority

pub returns-clause-most : goal.returns-clause-most
returns-clause-most c priority = priority_rank-most priority

pub returns-clause-rising : goal.returns-clause-rising
returns-clause-rising c candidates = in_priority_order-rising candidates

pub returns-clause-stable : goal.returns-clause-stable
returns-clause-stable c candidates rank from to = in_priority_order-stable candidates rank from to
