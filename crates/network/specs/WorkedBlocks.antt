-- A deck that is worked to its end: its results under each ratio are those of the blocks that its lines say, in their order. That they are: proofs/WorkedBlocks.antt.
--     DoneAs           the time control and the blocks that the lines say
--     blocks_under     the blocks of the results under the ratio at a place
--     count_blocks     how many they are
--     as_many_under    as many under each ratio
use Rattle.std.specs.Prelude.{◌≡◌, refl, List, [], ◌∷◌, map, ℕ, zero, suc, ◌<◌, length, get_or}
use Rattle.std.proofs.Common.{sym, ap, ◌∙◌, subst, arith}
use Rattle.std.proofs.lemmas.List.{length-map}
use Rattle.meaning.specs.Blocks.{Time, ratios_of, under, Block}
use Rattle.meaning.specs.Results.{Result, blocks_of}
use Rattle.meaning.specs.Run.{block_count}
use Rattle.passes.specs.Together.{some_ratio}
use Rattle.network.specs.Order.{Sound, said}
use Rattle.network.specs.Steps.{closed_from}
use Rattle.network.specs.Answers.{blocks_closed}

abbrev pub closed_under : Time → List Block → (ratio : ℕ) → List Result
closed_under σ bs r = closed_from (under r σ) [] bs

pub record DoneAs (deck : List ℕ) (τ : Time) (rss : List (List Result)) : Type 0 where
  pub blocks : List Block
  pub sound : said deck ≡ Sound τ blocks
  pub results : rss ≡ map (closed_under τ blocks) (ratios_of τ)

each_blocks : (σ : Time) (bs : List Block) (rs : List ℕ) (place : ℕ) → place < length (map (closed_under σ bs) rs) → blocks_of (get_or (map (closed_under σ bs) rs) place []) ≡ bs
each_blocks σ bs [] place h = absurd (omega arith)
each_blocks σ bs (r ∷ rs) zero h = blocks_closed (under r σ) [] bs
each_blocks σ bs (r ∷ rs) (suc place) h = each_blocks σ bs rs place (omega arith)

length_blocks : (rs : List Result) → length (blocks_of rs) ≡ length rs
length_blocks [] = refl
length_blocks (r ∷ rs) = ap suc (length_blocks rs)

module _ {deck : List ℕ} {τ : Time} {rss : List (List Result)} (d : DoneAs deck τ rss) where
  pub blocks_under : (place : ℕ) → place < length rss → blocks_of (get_or rss place []) ≡ d.blocks
  blocks_under place =
      subst (λ (qss : List (List Result)). place < length qss → blocks_of (get_or qss place []) ≡ d.blocks) (sym d.results) (each_blocks τ d.blocks (ratios_of τ) place)

  pub count_blocks : block_count rss ≡ length d.blocks
  count_blocks =
      let some : 0 < length rss = omega (arith, ap length d.results, length-map (ratios_of τ) (closed_under τ d.blocks), some_ratio τ) in
      sym (length_blocks (get_or rss 0 [])) ∙ ap length (blocks_under 0 some)

  pub as_many_under : (place : ℕ) → place < length rss → length (get_or rss place []) ≡ block_count rss
  as_many_under place h = sym (length_blocks (get_or rss place [])) ∙ ap length (blocks_under place h) ∙ sym count_blocks
