-- Networks whose blocks pair off (specs/Pairing.antt).
--     same_off, off_same    `Same` is `PairOff`
use Rattle.meaning.specs.Blocks.{Block}
use Rattle.network.specs.Network.{Nets, net}
use Rattle.network.specs.Order.{Among, here, later, PairOff, nothing, pair}
use Rattle.network.specs.Pairing.{Same, both_none, paired, swapped, chained, same_refl, off_refl}

-- From pairs to swaps: the one that stands among others is swapped to the front.
among_same : {b : Block} {bs s t : Nets} → Among b bs s t → Same (net b bs t) s
among_same {b} {bs} (here {s}) = same_refl (net b bs s)
among_same (later {cs} a) = chained swapped (paired (same_refl cs) (among_same a))

pub off_same : {s t : Nets} → PairOff s t → Same s t
off_same nothing = both_none
off_same (pair a p q) = chained (paired (off_same p) (off_same q)) (among_same a)

-- From swaps to pairs: pairs can be chained. Of two that are taken out one after the other, the second may be taken out first.
record TakenFirst (b c : Block) (bs cs s u : Nets) : Type 0 where
  left : Nets
  first : Among c cs s left
  second : Among b bs left u

exchange : {b c : Block} {bs cs s t u : Nets} → Among b bs s t → Among c cs t u → TakenFirst b c bs cs s u
exchange here a = record { left = _; first = later a; second = here }
exchange (later a) here = record { left = _; first = here; second = a }
exchange (later a) (later e) = let i = exchange a e in record { left = _; first = later i.first; second = later i.second }

-- The partner of one that stands among others.
record Partner (b : Block) (bs s u : Nets) : Type 0 where
  branches : Nets
  others : Nets
  stands : Among b branches u others
  pairs : PairOff bs branches
  rest : PairOff s others

partner : {b : Block} {bs s t u : Nets} → Among b bs t s → PairOff t u → Partner b bs s u
partner here (pair a p q) = record { branches = _; others = _; stands = a; pairs = p; rest = q }
partner (later m) (pair a p q) =
    let i = partner m q in
    let x = exchange a i.stands in
    record { branches = _; others = _; stands = x.first; pairs = i.pairs; rest = pair x.second p i.rest }

off_chained : {s t u : Nets} → PairOff s t → PairOff t u → PairOff s u
off_chained nothing q = q
off_chained (pair a p q) r =
    let i = partner a r in
    pair i.stands (off_chained p i.pairs) (off_chained q i.rest)

pub same_off : {s t : Nets} → Same s t → PairOff s t
same_off both_none = nothing
same_off (paired p q) = pair here (same_off p) (same_off q)
same_off (swapped {bs} {cs} {s}) = pair (later here) (off_refl bs) (pair here (off_refl cs) (off_refl s))
same_off (chained p q) = off_chained (same_off p) (same_off q)
