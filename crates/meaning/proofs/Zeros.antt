-- Document 02, CR 7, in figures: decks that differ in trailing zeros alone, by the figures of specs/Zeros.antt.
use Rattle.std.specs.Prelude.{◌≡◌}
use Rattle.std.proofs.Common.{sym, ap, ◌∙◌}
use Rattle.meaning.specs.Words.{when◌then◌else◌}
use Rattle.meaning.specs.Run.{worked}
use Rattle.meaning.specs.Listing.{listing_by, listing}
use Rattle.meaning.specs.Pond.{pond}
use Rattle.meaning.specs.Zeros.{zeroed, zeroed_columns, in_free_form, in-columns, as_printed, storm, zeroed_storm, storm_with_zeros, storm_without}

-- TWO DECKS THAT DIFFER IN TRAILING ZEROS ALONE are worked to the same, and so listed alike. (What each is worked to stands between them, since that is quick to check.)
pub same_worked : worked zeroed ≡ worked pond
same_worked = in_free_form ∙ sym as_printed

pub same_in_columns : worked zeroed_columns ≡ worked pond
same_in_columns = in-columns ∙ sym as_printed

pub same_storm : worked zeroed_storm ≡ worked storm
same_storm = storm_with_zeros ∙ sym storm_without

pub same_listing : listing zeroed ≡ listing pond
unfolding listing when◌then◌else◌
same_listing = ap listing_by same_worked
