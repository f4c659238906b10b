-- The card's answer to GET PROCESSING OPTIONS (EMV 4.3 Book 3 section 6.5.8.4).
use Rattle.std.specs.Prelude.{ℕ, ◌++◌, ◌==◌, if◌then◌else◌, List}
use Rattle.ber_tlv.specs.Written.{written}

-- the profile and the locator: alone in format 1, each as an object in format 2
unfoldable pub options_body : ℕ → List ℕ → List ℕ → List ℕ
options_body format aip afl = if format == 1 then written 0x80 (aip ++ afl) else written 0x77 (written 0x82 aip ++ written 0x94 afl)
