-- How the code keeps the classes of bytes: two maps of 64 bits for each class, bit n of the low one for byte n, of the high one for
-- byte 64 + n.
use Rattle.std.specs.Prelude.{ℕ, ◌≡◌, Bool, ltb}
use Rattle.base.specs.Pick.{pick}
use Rattle.megaco.specs.Bytes.{in_class}
use Rattle.protocol.specs.Types.{Class, WordByte, NameByte, SafeByte, QuotedByte, DomainByte}

abbrev pub low_of : Class → ℕ
low_of WordByte = 0x03ff_0000_0000_0000
low_of NameByte = 0x03ff_8410_0000_0000
low_of SafeByte = 0x83ff_eff2_0000_0000
low_of QuotedByte = 0xffff_fffb_0000_0200
low_of DomainByte = 0x03ff_6000_0000_0000

abbrev pub high_of : Class → ℕ
high_of WordByte = 0x07ff_fffe_87ff_fffe
high_of NameByte = 0x07ff_fffe_87ff_fffe
high_of SafeByte = 0x57ff_ffff_d7ff_ffff
high_of QuotedByte = 0x7fff_ffff_ffff_ffff
high_of DomainByte = 0x07ff_fffe_07ff_fffe

-- the map that has the byte's bit
unfoldable pub half_of : ℕ → ℕ → ℕ → ℕ
half_of b low high = pick (ltb b 64) low (pick (ltb b 128) high 0)

-- whether the byte is in the class that has these maps
pub record OfMaps (b low high : ℕ) (r : Bool) : Type 0 where
  pub is : (k : Class) → low ≡ low_of k → high ≡ high_of k → r ≡ in_class k b
