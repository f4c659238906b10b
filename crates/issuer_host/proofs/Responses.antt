-- How many bytes the issuer authentication data are that the host makes.
use Rattle.std.proofs.Common.{◌≡◌, ℕ, Bool, true, false, ◌&&◌, IsTrue, ◌%◌, ◌<◌, ◌≤◌, nat_lt, List, [], length, refl, arith, length-append}
use Rattle.std.specs.Prelude.{◌==◌}
use Rattle.std.proofs.lemmas.Bool.{ltb-true}
use Rattle.app_cryptogram.specs.Cryptograms.{arpc_of, arpc_two_of}
use Rattle.issuer_host.specs.Account.{is_status}
use Rattle.issuer_host.specs.Code.{code_bytes}
use Rattle.issuer_host.specs.Response.{status_for, response_by}
use Rattle.issuer_host.specs.declared.account.Method.{Method}
use Rattle.issuer_host.specs.declared.account.Method.TheVariants.{One, Two}
use Rattle.issuer_host.specs.declared.code.Code.{Code}
use Rattle.issuer_host.specs.declared.code.Code.TheVariants.{Approved, Declined, UnknownAccount, NoFunds, Expired, WrongPin}
use Rattle.issuer_host.proofs.MadeSizes.{length-arpc, length-arpc_two}

pub two_bytes : (code : Code) → length (code_bytes code) ≡ 2
two_bytes Approved = refl
two_bytes Declined = refl
two_bytes UnknownAccount = refl
two_bytes NoFunds = refl
two_bytes Expired = refl
two_bytes WrongPin = refl

pub four_bytes : (status : ℕ) (code : Code) → length (status_for status code) ≡ 4
four_bytes status Approved = refl
four_bytes status Declined = refl
four_bytes status UnknownAccount = refl
four_bytes status NoFunds = refl
four_bytes status Expired = refl
four_bytes status WrongPin = refl

second : (p q : Bool) → IsTrue (p && q) → q ≡ true
second true true both = refl
second true false both = both
second false q both = cc

-- an account's status leaves bit 8 to the code
pub status_small : (status : ℕ) → IsTrue (is_status status) → status < 128
status_small status is = ltb-true status 128 (second (status % 16 == 0) (nat_lt status 128) is)

-- ten bytes by method 1, eight by method 2
size_of : Method → ℕ
size_of One = 10
size_of Two = 8

response_size : (method : Method) (status : ℕ) (session arqc : List ℕ) (code : Code) → length (response_by method status session arqc code) ≡ size_of method
unfolding size_of
response_size One status session arqc code =
    omega (arith, length-append (arpc_of session arqc (code_bytes code)) (code_bytes code), length-arpc session arqc (code_bytes code), two_bytes code)
response_size Two status session arqc code =
    omega (arith, length-append (arpc_two_of session arqc (status_for status code) []) (status_for status code), length-arpc_two session arqc (status_for status code) [], four_bytes status code)

at_least : (method : Method) → 8 ≤ size_of method
unfolding size_of
at_least One = omega arith
at_least Two = omega arith

at_most : (method : Method) → size_of method ≤ 16
unfolding size_of
at_most One = omega arith
at_most Two = omega arith

pub response_least : (method : Method) (status : ℕ) (session arqc : List ℕ) (code : Code) → 8 ≤ length (response_by method status session arqc code)
response_least method status session arqc code = omega (arith, response_size method status session arqc code, at_least method)

pub response_most : (method : Method) (status : ℕ) (session arqc : List ℕ) (code : Code) → length (response_by method status session arqc code) ≤ 16
response_most method status session arqc code = omega (arith, response_size method status session arqc code, at_most method)
