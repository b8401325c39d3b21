mod ListingLaws
