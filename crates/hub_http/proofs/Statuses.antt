-- The status of each code is one of HTTP's.
use Rattle.{std.proofs.Common.arith, http.specs.StatusCode.IsStatusCode, circle.specs.{Codes.status_of, declared.refusal.Code.{Code, TheVariants.{K1, W1, B1}}}}
use Rattle.circle.specs.declared.refusal.Code.TheVariants.{N1, N2, W2, W3, N3, S1, S2, S3, L1, F1, F2}

pub status_known : (code : Code) → IsStatusCode (status_of code)
status_known K1 = (omega arith, omega arith)
status_known W1 = (omega arith, omega arith)
status_known B1 = (omega arith, omega arith)
status_known N1 = (omega arith, omega arith)
status_known N2 = (omega arith, omega arith)
status_known W2 = (omega arith, omega arith)
status_known W3 = (omega arith, omega arith)
status_known N3 = (omega arith, omega arith)
status_known S1 = (omega arith, omega arith)
status_known S2 = (omega arith, omega arith)
status_known S3 = (omega arith, omega arith)
status_known L1 = (omega arith, omega arith)
status_known F1 = (omega arith, omega arith)
status_known F2 = (omega arith, omega arith)
