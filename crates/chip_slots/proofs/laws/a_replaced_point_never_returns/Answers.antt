use Rattle.chip_slots.proofs.LaterActs.{away_for_good}
use Rattle.chip_slots.proofs.laws.a_replaced_point_never_returns.Goals as goal

pub returns : goal.returns
returns c = λ most more acts none_most none_more t u v s s' s'' p is_t is_u is_v trust among gone. away_for_good c.trust_never_goes_back.ensures.acts c.later_never_goes_back.ensures.never_back most more acts none_most none_more t u v s s' s'' p is_t is_u is_v trust among gone
