-- Point 3 is not empty: it applies to decks, both of its ways out are taken, and there are decks that draw different networks.
use Rattle.std.specs.Prelude.{◌≡◌, refl, List, [], ◌∷◌, ℕ, get_or}
use Rattle.std.proofs.Common.{sym, ap, ◌∙◌, arith}
use Rattle.meaning.specs.Words.{bytes}
use Rattle.meaning.specs.Blocks.{Block, Held}
use Rattle.meaning.specs.Water.{sum_of}
use Rattle.meaning.specs.Run.{outcome}
use Rattle.meaning.specs.Computing.{computing}
use Rattle.meaning.specs.Pond.{pond}
use Rattle.network.specs.Network.{Nets, none, net, network_of}
use Rattle.network.specs.Order.{here, later, PairOff, nothing, pair}
use Rattle.network.specs.Pairing.{weight_same, off_refl}
use Rattle.network.proofs.Pairing.{off_same}
use Rattle.network.proofs.Flows.{total_same}
use Rattle.network.specs.Point3.{OrderFree}
use Rattle.network.proofs.Point3.{order_does_not_matter}
use Rattle.network.specs.Decks.{up, riv, side, out, inflow, hour, side_first, side_first_zeros, hour_rated, pond_rated, side_first_rated, room_rated, lake, mere, lake_first, mere_first, room_pools, wetter, renamed, side_routed, room, head, meet, single, meeting, all_first, as_they_meet, headwaters_first, more_room, name_in_record, computed}

-- The pond in two orders: both accepted, with the same hydrograph at the outlet (see Decks).
pond_pairs : PairOff (network_of (up ∷ riv ∷ side ∷ out ∷ [])) (network_of (side ∷ up ∷ riv ∷ out ∷ []))
unfolding computing
pond_pairs = pair here (pair (later here) nothing (pair here (pair here nothing nothing) nothing)) nothing

pub pond_order_free : OrderFree hour (up ∷ riv ∷ side ∷ out ∷ []) (side ∷ up ∷ riv ∷ out ∷ []) 0 0 0 0 room room (outcome pond 0 0 room) (outcome side_first 0 0 room)
pond_order_free =
    order_does_not_matter pond side_first 0 0 0 0 room room hour hour (up ∷ riv ∷ side ∷ out ∷ []) (side ∷ up ∷ riv ∷ out ∷ []) 4 4 1
    computed.pond_says computed.side_first_says refl pond_pairs
    computed.pond_answers
    (omega arith)
    (record { work = omega arith; ordinates = omega arith; records = omega arith; block = omega arith; ratio-listed = omega arith })

-- The same where one deck writes 60 and 1.50, and the other 60.0 and 1.500: what they say is the same.
pub zeros_order_free :
    OrderFree hour (up ∷ riv ∷ side ∷ out ∷ []) (side ∷ up ∷ riv ∷ out ∷ []) 0 0 0 0 room room (outcome pond 0 0 room) (outcome side_first_zeros 0 0 room)
zeros_order_free =
    order_does_not_matter pond side_first_zeros 0 0 0 0 room room hour hour (up ∷ riv ∷ side ∷ out ∷ []) (side ∷ up ∷ riv ∷ out ∷ []) 4 4 1
    computed.pond_says computed.side_first_zeros_says refl pond_pairs
    computed.pond_answers
    (omega arith)
    (record { work = omega arith; ordinates = omega arith; records = omega arith; block = omega arith; ratio-listed = omega arith })

-- A pool on each branch, in two orders: both accepted, with the same hydrographs (see Decks).
pool_pairs : PairOff (network_of (up ∷ lake ∷ side ∷ mere ∷ out ∷ [])) (network_of (side ∷ mere ∷ up ∷ lake ∷ out ∷ []))
unfolding computing
pool_pairs = pair here (pair (later here) (pair here nothing nothing) (pair here (pair here nothing nothing) nothing)) nothing

pub pool_order_free :
    OrderFree hour (up ∷ lake ∷ side ∷ mere ∷ out ∷ []) (side ∷ mere ∷ up ∷ lake ∷ out ∷ []) 0 0 0 0 room_pools room_pools (outcome lake_first 0 0 room_pools) (outcome mere_first 0 0 room_pools)
pool_order_free =
    order_does_not_matter lake_first mere_first 0 0 0 0 room_pools room_pools hour hour (up ∷ lake ∷ side ∷ mere ∷ out ∷ []) (side ∷ mere ∷ up ∷ lake ∷ out ∷ []) 4 5 1
    computed.lake_first_says computed.mere_first_says refl pool_pairs
    computed.lake_first_answers
    (omega arith)
    (record { work = omega arith; ordinates = omega arith; records = omega arith; block = omega arith; ratio-listed = omega arith })

-- The pond under two ratios, the first of them named.
pub rated_order_free :
    OrderFree hour_rated (up ∷ riv ∷ side ∷ out ∷ []) (side ∷ up ∷ riv ∷ out ∷ []) 0 1 0 1 room_rated room_rated (outcome pond_rated 0 1 room_rated) (outcome side_first_rated 0 1 room_rated)
rated_order_free =
    order_does_not_matter pond_rated side_first_rated 0 1 0 1 room_rated room_rated hour_rated hour_rated (up ∷ riv ∷ side ∷ out ∷ []) (side ∷ up ∷ riv ∷ out ∷ []) 4 4 2
    computed.pond_rated_says computed.side_first_rated_says refl pond_pairs
    computed.pond_half_answers
    (omega arith)
    (record { work = omega arith; ordinates = omega arith; records = omega arith; block = omega arith; ratio-listed = omega arith })

-- 21 headwaters: the one deck is accepted, the other refused by 11. Four headwaters stand before what was joined already, or behind it.
five_pairs : {bs cs : Nets} → PairOff bs cs
    → PairOff (net head none (net head none (net head none (net head none (net meet bs none))))) (net meet cs (net head none (net head none (net head none (net head none none)))))
five_pairs p = pair (later here) nothing (pair (later here) nothing (pair (later here) nothing (pair (later here) nothing (pair here p nothing))))

headwater_pairs : PairOff (network_of meeting) (network_of all_first)
unfolding computing
headwater_pairs =
    let five = net head none (net head none (net head none (net head none (net head none none)))) in
    pair here (five_pairs (five_pairs (five_pairs (five_pairs (off_refl five))))) nothing

pub headwaters_order_free : OrderFree single meeting all_first 0 0 0 0 more_room more_room (outcome as_they_meet 0 0 more_room) (outcome headwaters_first 0 0 more_room)
headwaters_order_free =
    order_does_not_matter as_they_meet headwaters_first 0 0 0 0 more_room more_room single single meeting all_first 1 26 1 computed.meeting_says computed.all_first_says refl headwater_pairs
    computed.meeting_answers
    (omega arith)
    (record { work = omega arith; ordinates = omega arith; records = omega arith; block = omega arith; ratio-listed = omega arith })

-- NOT THE SAME NETWORK: with another value, another name, or the reach on the other branch no pairing exists, since the last ordinate at the outlet, or for the name a sum
-- over the names, would be another. And the outcomes do differ: so point 3 asks for the same network.
abbrev fourth : List ℕ → ℕ
fourth flow = get_or flow 3 0

pub other_value : PairOff (network_of (up ∷ riv ∷ side ∷ out ∷ [])) (network_of (up ∷ riv ∷ inflow (bytes "SIDE") (100 ∷ 200 ∷ 200 ∷ 101 ∷ []) ∷ out ∷ [])) → ⊥
unfolding computing
other_value p = let e = ap (λ (h : Held). fourth h.flow) (total_same hour (off_same p)) in omega arith

pub other_value_differs : (outcome pond 0 0 room).ordinates ≡ (outcome wetter 0 0 room).ordinates → ⊥
other_value_differs p = let e = ap fourth (sym computed.pond_outlet ∙ p ∙ computed.wetter_outlet) in omega arith

pub other_name : PairOff (network_of (up ∷ riv ∷ side ∷ out ∷ [])) (network_of (up ∷ riv ∷ inflow (bytes "SIDF") (100 ∷ 200 ∷ 200 ∷ 100 ∷ []) ∷ out ∷ [])) → ⊥
unfolding computing
other_name p = let e = weight_same (λ (b : Block). sum_of b.name) (off_same p) in omega arith

pub other_name_differs : (outcome pond 0 0 room).records ≡ (outcome renamed 0 0 room).records → ⊥
other_name_differs p = let e = ap fourth (sym computed.pond_name ∙ ap (name_in_record 3) p ∙ computed.renamed_name) in omega arith

pub other_branch : PairOff (network_of (up ∷ riv ∷ side ∷ out ∷ [])) (network_of (up ∷ side ∷ riv ∷ out ∷ [])) → ⊥
unfolding computing
other_branch p = let e = ap (λ (h : Held). fourth h.flow) (total_same hour (off_same p)) in omega arith

pub other_branch_differs : (outcome pond 0 0 room).ordinates ≡ (outcome side_routed 0 0 room).ordinates → ⊥
other_branch_differs p = let e = ap fourth (sym computed.pond_outlet ∙ p ∙ computed.side_routed_outlet) in omega arith
