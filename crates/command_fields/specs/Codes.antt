-- The response codes of the protocol, and their numbers.
use Rattle.std.specs.Prelude.{ℕ}
use Rattle.command_fields.specs.declared.response.ResponseCode.{ResponseCode}
use Rattle.command_fields.specs.declared.response.ResponseCode.TheVariants as codes

abbrev pub number_of_code : ResponseCode → ℕ
number_of_code codes.Ok = 0x01
number_of_code codes.StreamDoesNotExist = 0x02
number_of_code codes.SubscriptionIdAlreadyExists = 0x03
number_of_code codes.SubscriptionIdDoesNotExist = 0x04
number_of_code codes.StreamAlreadyExists = 0x05
number_of_code codes.StreamNotAvailable = 0x06
number_of_code codes.SaslMechanismNotSupported = 0x07
number_of_code codes.AuthenticationFailure = 0x08
number_of_code codes.SaslError = 0x09
number_of_code codes.SaslChallenge = 0x0a
number_of_code codes.AuthenticationFailureLoopback = 0x0b
number_of_code codes.VirtualHostAccessFailure = 0x0c
number_of_code codes.UnknownFrame = 0x0d
number_of_code codes.FrameTooLarge = 0x0e
number_of_code codes.InternalError = 0x0f
number_of_code codes.AccessRefused = 0x10
number_of_code codes.PreconditionFailed = 0x11
number_of_code codes.PublisherDoesNotExist = 0x12
number_of_code codes.NoOffset = 0x13
