-- One fixed whole, in parts of which every amount is counted. Assumes nothing: this is a definition.
use Rattle.std.specs.Prelude.{ℕ}

-- the least number that every denominator from 1 to 255 divides, 362 bits; no code and no proof computes with it but the test that they divide it
unfoldable pub whole : ℕ
whole = 8337245403447921335829504375888192675135162254454825924977726845769444687965016467695833282339504042669808000
